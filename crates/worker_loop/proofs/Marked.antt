-- A post in which one more variable is marked as a root unit.
use Rattle.std.proofs.Common.{◌≡◌, ℕ, ◌-◌, ◌/◌, ◌%◌, ◌^◌, ◌<◌, ◌≤◌, inl, inr, List, [], length, get_or, Contains, sym, ap, ◌∙◌, subst}
use Rattle.std.proofs.Common.{arith}
use Rattle.std.specs.Prelude.{slice_index, slice_set, bit_or}
use Rattle.std.specs.Vec.{with_item}
use Rattle.std.specs.Int.{bit_at}
use Rattle.std.proofs.lemmas.Bool.{cases_eq}
use Rattle.std.proofs.lemmas.List.{get_or_default, get_or-set_other, length-set}
use Rattle.std.proofs.lemmas.Grind.{get_or-set_at}
use Rattle.std.proofs.lemmas.Nat.Bits.{bit_at_or, bit_at-pow_other}
use Rattle.cnf_core.specs.Literals.{Literal, Assignment}
use Rattle.cnf_core.specs.Formulas.{Cnf, IsModel, Entails, models, true_literal}
use Rattle.cnf_core.proofs.Models.{model_in}
use Rattle.lrat_log.specs.Entries.{Recorded, with_import}
use Rattle.board_core.specs.Subjects.{About, Entailed, groups}
use Rattle.candidate_words.specs.Seats.{Board, Sits}
use Rattle.assumption_solver.specs.Units.{HasUnit}
use Rattle.worker_loop.specs.declared.post.Post.{Post}
use Rattle.worker_loop.specs.Steps.Held.{AreRooted, IsPost}
use Rattle.worker_loop.proofs.Imports.{same_about, unit_import}

pub rooted_marked : (a : About) (L : Recorded) (marks : List ℕ) (x k b : ℕ) → 0 < x → x ≤ a.formula.vars
    → length marks ≡ groups a.formula.vars
    → k ≡ (x - 1) / 32 → b ≡ 2 ^ ((x - 1) % 32) → HasUnit L (true_literal a.phases x) → AreRooted a L marks
    → AreRooted a L (slice_set marks k (bit_or (slice_index marks k) b))
rooted_marked a L marks x k b low high size group bits unit h y ylow yhigh is =
    let w = slice_index marks k in
    let j = (y - 1) / 32 in
    let i = (y - 1) % 32 in
    elim (cases_eq j k) [
      | inl same ↦
          let here : bit_at (bit_or w b) i ≡ 1 =
          subst (λ (v : ℕ). bit_at v i ≡ 1) (get_or-set_at marks k j (bit_or w b) 0 same (omega (arith, size, group, low, high))) is in
          elim (cases_eq i ((x - 1) % 32)) [
            | inl bit ↦
                let e : x ≡ y = omega (arith, same, group, bit, low, ylow) in
                subst (λ (z : ℕ). HasUnit L (true_literal a.phases z)) e unit
            | inr other ↦
                let none : bit_at b i ≡ 0 = ap (λ (c : ℕ). bit_at c i) bits ∙ bit_at-pow_other ((x - 1) % 32) i other in
                let old : bit_at w i ≡ 1 = omega (arith, bit_at_or w b i, none, here) in
                h y ylow yhigh (subst (λ (g : ℕ). bit_at (slice_index marks g) i ≡ 1) (sym same) old)
          ]
      | inr other ↦ h y ylow yhigh (subst (λ (v : ℕ). bit_at v i ≡ 1) (get_or-set_other marks k j (bit_or w b) 0 other) is)
    ]

-- a formula with a model has models
pub has_models : (F : Cnf) (a : Assignment) → IsModel F a → models F ≡ [] → ⊥
has_models F a is none =
    let here : Contains [] a = subst (λ (ms : List Assignment). Contains ms a) none (model_in F a is) in
    absurd (omega (arith, here.1))

-- what the table says of a variable is so of the literal
pub entailed_of : (b : Board) (p : Post) (l : Literal) (x : ℕ) → IsPost p → Sits b p.seat → Entailed b.about x → x ≡ l.var
    → l ≡ true_literal p.question.now.phases l.var → Entails p.solver.log.formula l
unfolding Entailed
entailed_of b p l x h sits entailed is phase =
    let a = p.question.now in
    let here : Entailed a x = subst (λ (c : About). Entailed c x) (same_about b a p.seat sits h.view) entailed in
    let there : Entails a.formula (true_literal a.phases l.var) = subst (λ (y : ℕ). Entails a.formula (true_literal a.phases y)) is here in
    subst (λ (F : Cnf). Entails F l) (sym h.told.log) (subst (λ (k : Literal). Entails a.formula k) (sym phase) there)

-- an import shows its literal
pub shown_import : (L M : Recorded) (l k : Literal) (stamp : ℕ) → M ≡ with_import L l stamp → l ≡ k → HasUnit M k
shown_import L M l k stamp is same =
    subst (λ (N : Recorded). HasUnit N k) (sym is) (subst (λ (j : Literal). HasUnit (with_import L l stamp) j) same (unit_import L l stamp))

pub post_marked : (p : Post) (x k b w : ℕ) → IsPost p → 0 < x → x ≤ p.question.now.formula.vars
    → k ≡ (x - 1) / 32 → b ≡ 2 ^ ((x - 1) % 32) → w ≡ get_or p.rooted.items k w → HasUnit p.solver.log
    (true_literal p.question.now.phases x)
    → IsPost (record p { rooted = with_item p.rooted k (bit_or w b) })
post_marked p x k b w h low high group bits word unit =
    let a = p.question.now in
    let size : k < length p.rooted.items = omega (arith, group, low, high, h.rooted_length) in
    let is : w ≡ slice_index p.rooted.items k = word ∙ get_or_default p.rooted.items k w 0 size in
    let marked = rooted_marked a p.solver.log p.rooted.items x k b low high h.rooted_length group bits unit h.rooted in record {
      some = h.some;
      limit = h.limit;
      is_model = h.is_model;
      view = h.view;
      once = h.once;
      told = h.told;
      clocked = h.clocked;
      rooms = record { drops = h.rooms.drops; fixes = h.rooms.fixes };
      loaded = h.loaded;
      rooted_length = length-set p.rooted.items k (bit_or w b) ∙ h.rooted_length;
      rooted = subst (λ (v : ℕ). AreRooted a p.solver.log (slice_set p.rooted.items k (bit_or v b))) (sym is) marked;
      first_group = h.first_group;
      marks = h.marks;
      walker = h.walker;
      jumper = h.jumper;
      clock = h.clock;
      budget = h.budget;
      few = h.few;
    }
