-- The places of lines by the models that they take, one line more.
use Rattle.std.proofs.Common.{◌≡◌, ◌≢◌, ℕ, ◌+◌, ◌<◌, ◌≤◌, List, Some, length, replicate, set, sym, ap, ◌∙◌, subst, inl, inr, ⊎_elim, arith, length-set, get_or-set_same, get_or-set_other}
use Rattle.std.specs.Prelude.{slice_get}
use Rattle.std.proofs.lemmas.Bool.{cases_eq, cases_lt}
use Rattle.std.proofs.lemmas.List.{length-replicate, get_or-replicate}
use Rattle.std.proofs.lemmas.Option.{slice_get_past}
use Rattle.witness_text.specs.declared.line.WitnessLine.{WitnessLine}
use Rattle.bone_check.specs.Steps.Dropping.{IsNext, IsChained, Links, link}

-- a line that is there stands before the end
pub within_of : (drops : List WitnessLine) (i : ℕ) (d : WitnessLine) → slice_get drops i ≡ Some d → i < length drops
within_of drops i d is = ⊎_elim
    (λ (lt : i < length drops). lt)
    (λ (past : length drops ≤ i). let none = slice_get_past drops i past in absurd (cc))
    (cases_lt i (length drops))

pub same_line : (drops : List WitnessLine) (i : ℕ) (d e : WitnessLine) → slice_get drops i ≡ Some d → slice_get drops i ≡ Some e → d ≡ e
same_line drops i d e is other = cc

-- behind the last line there is none
at_end : (drops : List WitnessLine) (k n : ℕ) → n ≡ length drops → IsNext drops k (length drops) n
at_end drops k n is = record {
  high = omega arith;
  low = omega arith;
  takes = λ d here. let lt = within_of drops n d here in absurd (omega arith);
  between = λ i d from before here takes. absurd (omega arith);
}

pub chained_none : (drops : List WitnessLine) (models : ℕ) (links : Links) → links.first ≡ replicate models (length drops)
    → length links.next ≡ length drops → IsChained drops (length drops) models links
chained_none drops models links first next = record {
  models_are = ap length first ∙ length-replicate models (length drops);
  lines_are = next;
  firsts = λ k lt. at_end drops k (link links.first k)
      (ap (λ (ps : List ℕ). link ps k) first ∙ get_or-replicate models k (length drops) 0 lt);
  nexts = λ i d from here. let lt = within_of drops i d here in absurd (omega arith);
}

-- the links with one line more in front
abbrev pub linked : Links → ℕ → ℕ → Links
linked links model place = record {
  first = set links.first model place;
  next = set links.next place (link links.first model);
}

-- the line itself is the first
itself : (drops : List WitnessLine) (place k n : ℕ) (d : WitnessLine) → slice_get drops place ≡ Some d → d.model ≡ k → n ≡ place
    → IsNext drops k place n
itself drops place k n d here model is =
    let lt = within_of drops place d here in
    record {
      high = omega arith;
      low = omega arith;
      takes = λ e there. ap (λ (x : WitnessLine). x.model) (same_line drops place e d (subst (λ (p : ℕ). slice_get drops p ≡ Some e) is there) here) ∙ model;
      between = λ i e from before there takes. absurd (omega arith);
    }

-- a model that the line doesn't take
another : (drops : List WitnessLine) (place k n : ℕ) (d : WitnessLine) → slice_get drops place ≡ Some d → d.model ≢ k
    → IsNext drops k (place + 1) n → IsNext drops k place n
another drops place k n d here other next = record {
  high = next.high;
  low = omega (arith, next.low);
  takes = next.takes;
  between = λ i e from before there takes. elim (cases_eq i place) [
    | inl is ↦ other (ap (λ (x : WitnessLine). x.model) (same_line drops place d e here (subst (λ (p : ℕ). slice_get drops p ≡ Some e) is there)) ∙ takes)
    | inr later ↦ next.between i e (omega arith) before there takes
  ];
}

pub chained_more : (drops : List WitnessLine) (models place : ℕ) (links : Links) (d : WitnessLine) → slice_get drops place ≡ Some d
    → d.model < models → IsChained drops (place + 1) models links → IsChained drops place models (linked links d.model place)
chained_more drops models place links d here below chained =
    let lt = within_of drops place d here in
    record {
      models_are = length-set links.first d.model place ∙ chained.models_are;
      lines_are = length-set links.next place (link links.first d.model) ∙ chained.lines_are;
      firsts = λ k k_lt. elim (cases_eq k d.model) [
        | inl is ↦
            itself drops place k (link (set links.first d.model place) k) d here (sym is)
            (ap (link (set links.first d.model place)) is
            ∙ get_or-set_same links.first d.model place 0 (omega (arith, chained.models_are)))
        | inr other ↦
            another drops place k (link (set links.first d.model place) k) d here (λ is. other (sym is))
            (subst (λ (n : ℕ). IsNext drops k (place + 1) n) (sym (get_or-set_other links.first d.model k place 0 other)) (chained.firsts k k_lt))
      ];
      nexts = λ i e from there. elim (cases_eq i place) [
        | inl is ↦
            (let same : d ≡ e = same_line drops place d e here (subst (λ (p : ℕ). slice_get drops p ≡ Some e) is there) in
            let value : link links.first d.model ≡ link (set links.next place (link links.first d.model)) i =
            sym (get_or-set_same links.next place (link links.first d.model) 0 (omega (arith, chained.lines_are)))
            ∙ ap (link (set links.next place (link links.first d.model))) (sym is) in
            let next : IsNext drops d.model (i + 1) (link links.first d.model) =
            subst (λ (p : ℕ). IsNext drops d.model (p + 1) (link links.first d.model)) (sym is) (chained.firsts d.model below) in
            subst (λ (n : ℕ). IsNext drops e.model (i + 1) n) value
            (subst (λ (x : WitnessLine). IsNext drops x.model (i + 1) (link links.first d.model)) same next))
        | inr later ↦
            subst (λ (n : ℕ). IsNext drops e.model (i + 1) n)
            (sym (get_or-set_other links.next place i (link links.first d.model) 0 later))
            (chained.nexts i e (omega arith) there)
      ];
    }
