-- What a view knows by itself: from the rules, and over splits and joins.
use Rattle.std.proofs.Common.{◌≡◌, ℕ, ◌<◌, ◌≤◌, true, false, length, ⊎_elim, refl, ◌∙◌, arith}
use Rattle.std.proofs.lemmas.Bool.{cases_lt}
use Rattle.cnf_core.specs.Literals.{IsWithin}
use Rattle.std.specs.Prelude.{slice_index}
use Rattle.std.proofs.lemmas.List.{length-replicate}
use Rattle.std.proofs.lemmas.List.Sums.{get_or-le-sum_by}
use Rattle.board_core.specs.Subjects.{About, candidate}
use Rattle.board_core.specs.Words.{times}
use Rattle.board_core.specs.Boards.{State, spent_view, view_at, root_view, parent, child, joined}
use Rattle.board_core.specs.Rules.{BoardRule, ClockRule, IsView, IsOnce}
use Rattle.board_core.specs.declared.view.View.{View}
use Rattle.board_core.proofs.Bits.{times-append}
use Rattle.board_core.proofs.Steps.{seated, earlier_refl}
use Rattle.board_core.proofs.Seats.{met_inside, met_later}
use Rattle.board_core.proofs.Clocks.{named-append}
use Rattle.board_core.proofs.Ends.{opens, clocks_open, fixed_candidate, candidate_within}

pub is_view : (a : About) (s : State) (id : ℕ) → BoardRule a s → ClockRule a s → (view_at s.views id).spent ≡ false → IsView a (view_at s.views id)
is_view a s id rule clocks unspent =
    let within : id < length s.views = seated s.views id unspent in
    let fits = rule.views id unspent in record {
      about = fits.about;
      unspent = unspent;
      seen = fits.seen;
      loaded = fits.loaded;
      loads_length = fits.loads_length;
      looks_length = fits.looks_length;
      loaded_seen = fits.loaded_seen;
      drops = λ x none. omega (arith, rule.dropped_once x, get_or-le-sum_by (λ (v : View). times x v.drops) s.views id spent_view within);
      fixes = λ x none. omega (
        arith,
        rule.fixed_once x,
        fixed_candidate a s.words x rule.words,
        get_or-le-sum_by (λ (v : View). times x v.fixes) s.views id spent_view within,
      );
      published = λ x. clocks.fixed id x;
    }

pub is_once : (a : About) (s : State) (id : ℕ) → BoardRule a s → (view_at s.views id).spent ≡ false → IsOnce a (view_at s.views id)
is_once a s id rule unspent =
    let within : id < length s.views = seated s.views id unspent in record {
      drops = λ x. omega (arith, rule.dropped_once x, get_or-le-sum_by (λ (v : View). times x v.drops) s.views id spent_view within);
      fixes = λ x. omega (
        arith,
        rule.fixed_once x,
        fixed_candidate a s.words x rule.words,
        get_or-le-sum_by (λ (v : View). times x v.fixes) s.views id spent_view within,
      );
    }

pub view_root : (a : About) → IsView a (root_view a)
view_root a = is_view a _ 0 (opens a) (clocks_open a) refl

pub once_root : (a : About) → IsOnce a (root_view a)
once_root a = is_once a _ 0 (opens a) refl

pub once_parent : (a : About) (v : View) → IsOnce a v → IsOnce a (parent v)
once_parent a v once = record { drops = once.drops; fixes = once.fixes }

pub once_child : (a : About) (v : View) → IsOnce a (child v)
once_child a v = record { drops = λ x. omega arith; fixes = λ x. omega arith }

pub view_parent : (a : About) (v : View) → IsView a v → IsView a (parent v)
view_parent a v is = record {
  about = is.about;
  unspent = is.unspent;
  seen = is.seen;
  loaded = is.loaded;
  loads_length = is.loads_length;
  looks_length = is.looks_length;
  loaded_seen = is.loaded_seen;
  drops = is.drops;
  fixes = is.fixes;
  published = is.published;
}

pub view_child : (a : About) (v : View) → IsView a v → IsView a (child v)
view_child a v is = record {
  about = is.about;
  unspent = is.unspent;
  seen = is.seen;
  loaded = is.seen;
  loads_length = length-replicate (length v.seen) 0 ∙ is.seen.size;
  looks_length = length-replicate (length v.looks) 0 ∙ is.looks_length;
  loaded_seen = λ g _. earlier_refl (slice_index v.seen g);
  drops = λ x none. refl;
  fixes = λ x none. refl;
  published = λ x. omega arith;
}

pub view_joined : (a : About) (v u : View) → IsView a v → IsView a u → IsView a (joined v u)
view_joined a v u is other = record {
  about = is.about;
  unspent = is.unspent;
  seen = met_inside a v.seen u.seen is.seen other.seen;
  loaded = is.loaded;
  loads_length = is.loads_length;
  looks_length = is.looks_length;
  loaded_seen = met_later a v.loaded v.seen u.seen is.seen other.seen is.loaded_seen;
  drops = λ x none. omega (arith, is.drops x none, other.drops x none, times-append x v.drops u.drops);
  fixes = λ x none. omega (arith, is.fixes x none, other.fixes x none, times-append x v.fixes u.fixes);
  published = λ x. omega (arith, is.published x, other.published x, named-append x v.published u.published, times-append x v.fixes u.fixes);
}

-- a variable that a view has fixed is one of the formula's
pub fixes_within : (a : About) (v : View) (x : ℕ) → IsView a v → 1 ≤ times x v.fixes → IsWithin a.formula.vars (record { var = x; positive = true })
fixes_within a v x is some =
    ⊎_elim (λ (h : candidate a.formula x < 1). let none = is.fixes x (omega arith) in absurd (omega arith))
    (λ (h : 1 ≤ candidate a.formula x). candidate_within a.formula x h)
    (cases_lt (candidate a.formula x) 1)
