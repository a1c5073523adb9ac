-- What a question keeps.
use Rattle.std.specs.Prelude.{◌≡◌, ◌<◌}
use Rattle.cnf_core.specs.Literals.{Assignment}
use Rattle.cnf_core.specs.Formulas.{Cnf, IsModel}
use Rattle.board_core.specs.Subjects.{About}
use Rattle.flip_literals.specs.Listings.{Listing}

-- the listing of the literals that the phases make true
abbrev pub listing_of : About → Listing
listing_of a = record { formula = a.formula; first = a.phases }

pub record IsQuestion (F : Cnf) (phases : Assignment) (o : Listing) : Type 0 where
  pub some : 0 < F.vars
  pub is_model : IsModel F phases
  pub formula : o.formula ≡ F
  pub first : o.first ≡ phases
