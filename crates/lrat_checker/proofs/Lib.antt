mod TableLemmas
mod OpenLemmas
mod HintLemmas
mod FindLemmas
mod UnitLemmas
mod Standing
