use Rattle.std.proofs.Common.{◌≡◌, ◌+◌, ◌-◌, ◌/◌, ◌%◌, ◌^◌, ◌<◌, ◌++◌, [], ◌∷◌, ℕ, List, refl, sym, ap, ◌∙◌, subst, arith}
use Rattle.std.specs.Prelude.{slice_index}
use Rattle.std.specs.Vec.{vec_capacity}
use Rattle.cnf_core.specs.Literals.{Literal}
use Rattle.cnf_core.specs.Formulas.{Entails}
use Rattle.lrat_log.specs.Entries.{Recorded}
use Rattle.lrat_log.specs.Kept.{IsLog}
use Rattle.assumption_solver.specs.Units.{HasUnit}
use Rattle.board_core.specs.Subjects.{About, groups}
use Rattle.board_core.specs.Boards.{MayPublish, stamped, publish_view}
use Rattle.board_core.specs.Words.{open_at}
use Rattle.board_core.specs.Rules.{IsView, IsOnce, AreEarlier}
use Rattle.candidate_words.specs.Seats.{Sitter, with_view}
use Rattle.worker_loop.proofs.Onward.{longer_refl}
use Rattle.worker_loop.proofs.Imports.{same_about}
use Rattle.worker_loop.proofs.Dropped.{clocked_same}
use Rattle.worker_loop.proofs.Fixed.{group_low, each_entailed, fixes_none, fixes_one, room_for_fix, may_publish, not_imported, published_one, clocked_published, told_fixed, told_same, seen_fixed, fixed_closed}
use Rattle.worker_loop.proofs.post.Post.fix.Goals as goal

pub fix_bits-won-requires-clause-group : goal.fix_bits-won-requires-clause-group
fix_bits-won-requires-clause-group c =
    let same = same_about c.args.words.now c.args.self.now.question.now c.args.self.now.seat c.requires.sits c.requires.post.view in
    let var = c.var-var.ensures.value in
    subst (λ (a : About). c.group_of.result < groups a.formula.vars) (sym same)
    (group_low c.args.self.now.question.now.formula c.args.lit.var c.group_of.result c.requires.shown
    (c.group_of.ensures ∙ ap (λ (x : ℕ). (x - 1) / 32) var))

pub fix_bits-won-requires-clause-mask : goal.fix_bits-won-requires-clause-mask
fix_bits-won-requires-clause-mask c =
    let same = same_about c.args.words.now c.args.self.now.question.now c.args.self.now.seat c.requires.sits c.requires.post.view in
    let var = c.var-var.ensures.value in
    each_entailed c.args.self.now.question.now c.args.words.now.about c.args.self.now.solver.log c.args.lit c.group_of.result
    c.bit_of.result
    same c.requires.post.told.log
    (subst (λ (L : Recorded). (k : Literal) → HasUnit L k → Entails L.formula k) c.log.ensures c.prove_units.ensures.units)
    c.requires.rooted c.requires.shown
    (c.group_of.ensures ∙ ap (λ (x : ℕ). (x - 1) / 32) var) (c.bit_of.ensures ∙ ap (λ (x : ℕ). 2 ^ ((x - 1) % 32)) var)

pub push_reserved-requires : goal.push_reserved-requires
push_reserved-requires c =
    let same = same_about c.args.words.now c.args.self.now.question.now c.args.self.now.seat c.requires.sits c.requires.post.view in
    let var = c.var-var.ensures.value in
    let group : c.group_of.result ≡ (c.args.lit.var - 1) / 32 = c.group_of.ensures ∙ ap (λ (x : ℕ). (x - 1) / 32) var in
    let mask : c.bit_of.result ≡ 2 ^ ((c.args.lit.var - 1) % 32) = c.bit_of.ensures ∙ ap (λ (x : ℕ). 2 ^ ((x - 1) % 32)) var in
    let range = c.var-var.ensures.range in
    let low : 0 < c.args.lit.var = omega (arith, range.0, var) in
    let list = fixes_one c.args.self.now.seat c.fix_bits-won.new.seat c.args.lit.var c.group_of.result c.bit_of.result c.fix_bits-won.result
    c.fix_bits-won.ensures.fixed low group mask c.if-won-ne0.true in
    let once : IsOnce c.args.self.now.question.now c.fix_bits-won.new.seat.view =
    subst (λ (a : About). IsOnce a c.fix_bits-won.new.seat.view) same c.fix_bits-won.ensures.once in
    let room = room_for_fix c.args.self.now.question.now c.args.self.now.seat c.fix_bits-won.new.seat c.args.lit.var
    (vec_capacity c.args.self.now.fixes) c.args.self.now.fixes.items list once c.requires.post.told.fixes_are c.requires.post.rooms.fixes in
    omega (arith, room, c.args.self.now.fixes.ok)

pub publish_next-requires-clause-publishes : goal.publish_next-requires-clause-publishes
publish_next-requires-clause-publishes c =
    let same = same_about c.args.words.now c.args.self.now.question.now c.args.self.now.seat c.requires.sits c.requires.post.view in
    let var = c.var-var.ensures.value in
    let group : c.group_of.result ≡ (c.args.lit.var - 1) / 32 = c.group_of.ensures ∙ ap (λ (x : ℕ). (x - 1) / 32) var in
    let mask : c.bit_of.result ≡ 2 ^ ((c.args.lit.var - 1) % 32) = c.bit_of.ensures ∙ ap (λ (x : ℕ). 2 ^ ((x - 1) % 32)) var in
    let range = c.var-var.ensures.range in
    let low : 0 < c.args.lit.var = omega (arith, range.0, var) in
    let list = fixes_one c.args.self.now.seat c.fix_bits-won.new.seat c.args.lit.var c.group_of.result c.bit_of.result c.fix_bits-won.result
    c.fix_bits-won.ensures.fixed low group mask c.if-won-ne0.true in
    let once : IsOnce c.args.self.now.question.now c.fix_bits-won.new.seat.view =
    subst (λ (a : About). IsOnce a c.fix_bits-won.new.seat.view) same c.fix_bits-won.ensures.once in
    subst (λ (x : ℕ). MayPublish c.fix_bits-won.new.seat.view x (c.log-then-won-ne0.result.now.clock + 1)) (sym var)
    (may_publish c.args.self.now.question.now c.args.self.now.seat c.fix_bits-won.new.seat c.args.self.now.solver.log
    c.group_of.result c.bit_of.result c.fix_bits-won.result c.args.lit.var c.log-then-won-ne0.result.now.clock c.fix_bits-won.ensures.fixed
    list once c.requires.post.clocked (ap (λ (L : Recorded). L.clock) c.log-then-won-ne0.ensures))

pub returns-then-won-ne0-clause-post : goal.returns-then-won-ne0-clause-post
returns-then-won-ne0-clause-post c =
    let same = same_about c.args.words.now c.args.self.now.question.now c.args.self.now.seat c.requires.sits c.requires.post.view in
    let var = c.var-var.ensures.value in
    let group : c.group_of.result ≡ (c.args.lit.var - 1) / 32 = c.group_of.ensures ∙ ap (λ (x : ℕ). (x - 1) / 32) var in
    let mask : c.bit_of.result ≡ 2 ^ ((c.args.lit.var - 1) % 32) = c.bit_of.ensures ∙ ap (λ (x : ℕ). 2 ^ ((x - 1) % 32)) var in
    let range = c.var-var.ensures.range in
    let low : 0 < c.args.lit.var = omega (arith, range.0, var) in
    let list = fixes_one c.args.self.now.seat c.fix_bits-won.new.seat c.args.lit.var c.group_of.result c.bit_of.result c.fix_bits-won.result
    c.fix_bits-won.ensures.fixed low group mask c.if-won-ne0.true in
    let s = c.args.self.now.seat in
    let t = c.fix_bits-won.new.seat in
    let u = c.publish_next.new.seat in
    let seat = c.fix_bits-won.ensures.fixed.seat in
    let stamp : c.log-then-won-ne0.result.now.clock + 1 ≡ c.args.self.now.solver.log.clock + 1 =
    ap (λ (k : ℕ). k + 1) (ap (λ (L : Recorded). L.clock) c.log-then-won-ne0.ensures) in
    let published : u ≡ with_view t (publish_view c.args.lit.var (c.args.self.now.solver.log.clock + 1) t.view) =
    c.publish_next.ensures.published ∙ ap (λ (x : ℕ). with_view t (publish_view x (c.log-then-won-ne0.result.now.clock + 1) t.view)) var
    ∙ ap (λ (k : ℕ). with_view t (publish_view c.args.lit.var k t.view)) stamp in
    let fixes : u.view.fixes ≡ s.view.fixes ++ c.args.lit.var ∷ [] = ap (λ (r : Sitter). r.view.fixes) published ∙ list in
    let own =
    not_imported s t c.args.lit.var c.group_of.result c.bit_of.result c.fix_bits-won.result c.fix_bits-won.ensures.fixed low group mask
    c.if-won-ne0.true in
    let new = published_one c.args.self.now.question.now s.view c.args.self.now.solver.log c.args.lit
    (subst IsLog c.log.ensures c.prove_units.ensures.log)
    c.requires.post.clocked c.requires.rooted own in
    record {
      some = c.requires.post.some;
      limit = c.requires.post.limit;
      is_model = c.requires.post.is_model;
      view = subst (λ (a : About). IsView a c.publish_next.new.seat.view) same c.publish_next.ensures.sits.view;
      once = subst (λ (a : About). IsOnce a c.publish_next.new.seat.view) same c.publish_next.ensures.once;
      told = told_fixed c.args.self.now.question.now s.view u.view c.args.self.now.models c.args.self.now.solver.log
          c.args.self.now.drops.items c.args.self.now.fixes.items c.push_reserved.new.self.items c.args.lit
          (ap (λ (r : Sitter). r.view.drops) published ∙ ap (λ (r : Sitter). r.view.drops) seat) fixes c.push_reserved.ensures.items
          c.requires.rooted c.requires.post.told;
      clocked = clocked_published c.args.self.now.question.now s.view u.view c.args.self.now.solver.log c.args.lit.var
          (c.args.self.now.solver.log.clock + 1)
          (ap (λ (r : Sitter). r.view.imports) published ∙ ap (λ (r : Sitter). r.view.imports) seat)
          (ap (λ (r : Sitter). r.view.published) published
          ∙ ap (λ (r : Sitter). r.view.published ++ stamped c.args.lit.var (c.args.self.now.solver.log.clock + 1) ∷ []) seat)
          fixes new c.requires.post.clocked;
      rooms = record {
        drops = c.requires.post.rooms.drops;
        fixes = omega (
          arith,
          c.requires.post.rooms.fixes,
          c.push_reserved.ensures.capacity,
        );
      };
      loaded = c.requires.post.loaded;
      rooted_length = c.requires.post.rooted_length;
      rooted = c.requires.post.rooted;
      first_group = c.requires.post.first_group;
      marks = c.requires.post.marks;
      walker = c.requires.post.walker;
      jumper = c.requires.post.jumper;
      clock = c.requires.post.clock;
      budget = c.requires.post.budget;
      few = c.requires.post.few;
    }

pub returns-then-won-ne0-clause-onward : goal.returns-then-won-ne0-clause-onward
returns-then-won-ne0-clause-onward c =
    let same = same_about c.args.words.now c.args.self.now.question.now c.args.self.now.seat c.requires.sits c.requires.post.view in
    let var = c.var-var.ensures.value in
    let group : c.group_of.result ≡ (c.args.lit.var - 1) / 32 = c.group_of.ensures ∙ ap (λ (x : ℕ). (x - 1) / 32) var in
    let mask : c.bit_of.result ≡ 2 ^ ((c.args.lit.var - 1) % 32) = c.bit_of.ensures ∙ ap (λ (x : ℕ). 2 ^ ((x - 1) % 32)) var in
    let range = c.var-var.ensures.range in
    let low : 0 < c.args.lit.var = omega (arith, range.0, var) in
    let inside = group_low c.args.self.now.question.now.formula c.args.lit.var c.group_of.result c.requires.shown group in
    let later = seen_fixed c.args.self.now.question.now c.args.self.now.seat c.fix_bits-won.new.seat c.group_of.result c.bit_of.result
    c.fix_bits-won.result c.fix_bits-won.ensures.fixed c.requires.post.view inside in
    let published = c.publish_next.ensures.published in
    let seat = c.fix_bits-won.ensures.fixed.seat in
    record {
      question = refl;
      table = ap (λ (u : Sitter). u.table) published ∙ ap (λ (u : Sitter). u.table) seat;
      number = ap (λ (u : Sitter). u.view.number) published ∙ ap (λ (u : Sitter). u.view.number) seat;
      next = ap (λ (u : Sitter). u.view.next) published ∙ ap (λ (u : Sitter). u.view.next) seat;
      out = ap (λ (u : Sitter). u.view.out) published ∙ ap (λ (u : Sitter). u.view.out) seat;
      loaded = ap (λ (u : Sitter). u.view.loaded) published ∙ ap (λ (u : Sitter). u.view.loaded) seat;
      loads = ap (λ (u : Sitter). u.view.loads) published ∙ ap (λ (u : Sitter). u.view.loads) seat;
      copy = refl;
      seen = subst (λ (ws : List ℕ). AreEarlier (groups c.args.self.now.question.now.formula.vars) c.args.self.now.seat.view.seen ws)
          (sym (ap (λ (u : Sitter). u.view.seen) published)) later;
      looks = λ x. omega (
        arith,
        ap (λ (u : Sitter). slice_index u.view.looks x) published,
        ap (λ (u : Sitter). slice_index u.view.looks x) seat,
      );
      imports = ap (λ (u : Sitter). u.view.imports) published ∙ ap (λ (u : Sitter). u.view.imports) seat;
      log = longer_refl c.args.self.now.solver.log;
      budget = refl;
    }

pub returns-then-won-ne0-clause-closed : goal.returns-then-won-ne0-clause-closed
returns-then-won-ne0-clause-closed c =
    let same = same_about c.args.words.now c.args.self.now.question.now c.args.self.now.seat c.requires.sits c.requires.post.view in
    let var = c.var-var.ensures.value in
    let group : c.group_of.result ≡ (c.args.lit.var - 1) / 32 = c.group_of.ensures ∙ ap (λ (x : ℕ). (x - 1) / 32) var in
    let mask : c.bit_of.result ≡ 2 ^ ((c.args.lit.var - 1) % 32) = c.bit_of.ensures ∙ ap (λ (x : ℕ). 2 ^ ((x - 1) % 32)) var in
    let range = c.var-var.ensures.range in
    let low : 0 < c.args.lit.var = omega (arith, range.0, var) in
    let inside = group_low c.args.self.now.question.now.formula c.args.lit.var c.group_of.result c.requires.shown group in
    subst (λ (ws : List ℕ). open_at ws c.args.lit.var ≡ 0) (sym (ap (λ (u : Sitter). u.view.seen) c.publish_next.ensures.published))
    (fixed_closed c.args.self.now.question.now c.args.self.now.seat c.fix_bits-won.new.seat c.args.lit.var c.group_of.result c.bit_of.result
    c.fix_bits-won.result c.fix_bits-won.ensures.fixed c.requires.post.view inside low group mask)

pub returns-else-won-ne0-clause-post : goal.returns-else-won-ne0-clause-post
returns-else-won-ne0-clause-post c =
    let same = same_about c.args.words.now c.args.self.now.question.now c.args.self.now.seat c.requires.sits c.requires.post.view in
    let s = c.args.self.now.seat in
    let t = c.fix_bits-won.new.seat in
    let seat = c.fix_bits-won.ensures.fixed.seat in
    let fixes = fixes_none s t c.group_of.result c.bit_of.result c.fix_bits-won.result c.fix_bits-won.ensures.fixed c.if-won-ne0.false in
    record {
      some = c.requires.post.some;
      limit = c.requires.post.limit;
      is_model = c.requires.post.is_model;
      view = subst (λ (a : About). IsView a c.fix_bits-won.new.seat.view) same c.fix_bits-won.ensures.sits.view;
      once = subst (λ (a : About). IsOnce a c.fix_bits-won.new.seat.view) same c.fix_bits-won.ensures.once;
      told = told_same c.args.self.now.question.now s.view t.view c.args.self.now.models c.args.self.now.solver.log
          c.args.self.now.drops.items c.args.self.now.fixes.items (ap (λ (r : Sitter). r.view.drops) seat) fixes c.requires.post.told;
      clocked = clocked_same c.args.self.now.question.now s.view t.view c.args.self.now.solver.log (ap (λ
          (r : Sitter). r.view.imports) seat)
          (ap (λ (r : Sitter). r.view.published) seat) fixes c.requires.post.clocked;
      rooms = record { drops = c.requires.post.rooms.drops; fixes = c.requires.post.rooms.fixes };
      loaded = c.requires.post.loaded;
      rooted_length = c.requires.post.rooted_length;
      rooted = c.requires.post.rooted;
      first_group = c.requires.post.first_group;
      marks = c.requires.post.marks;
      walker = c.requires.post.walker;
      jumper = c.requires.post.jumper;
      clock = c.requires.post.clock;
      budget = c.requires.post.budget;
      few = c.requires.post.few;
    }

pub returns-else-won-ne0-clause-onward : goal.returns-else-won-ne0-clause-onward
returns-else-won-ne0-clause-onward c =
    let same = same_about c.args.words.now c.args.self.now.question.now c.args.self.now.seat c.requires.sits c.requires.post.view in
    let var = c.var-var.ensures.value in
    let group : c.group_of.result ≡ (c.args.lit.var - 1) / 32 = c.group_of.ensures ∙ ap (λ (x : ℕ). (x - 1) / 32) var in
    let mask : c.bit_of.result ≡ 2 ^ ((c.args.lit.var - 1) % 32) = c.bit_of.ensures ∙ ap (λ (x : ℕ). 2 ^ ((x - 1) % 32)) var in
    let range = c.var-var.ensures.range in
    let low : 0 < c.args.lit.var = omega (arith, range.0, var) in
    let inside = group_low c.args.self.now.question.now.formula c.args.lit.var c.group_of.result c.requires.shown group in
    let seat = c.fix_bits-won.ensures.fixed.seat in
    record {
      question = refl;
      table = ap (λ (u : Sitter). u.table) seat;
      number = ap (λ (u : Sitter). u.view.number) seat;
      next = ap (λ (u : Sitter). u.view.next) seat;
      out = ap (λ (u : Sitter). u.view.out) seat;
      loaded = ap (λ (u : Sitter). u.view.loaded) seat;
      loads = ap (λ (u : Sitter). u.view.loads) seat;
      copy = refl;
      seen = seen_fixed c.args.self.now.question.now c.args.self.now.seat c.fix_bits-won.new.seat c.group_of.result c.bit_of.result
          c.fix_bits-won.result c.fix_bits-won.ensures.fixed c.requires.post.view inside;
      looks = λ x. omega (arith, ap (λ (u : Sitter). slice_index u.view.looks x) seat);
      imports = ap (λ (u : Sitter). u.view.imports) seat;
      log = longer_refl c.args.self.now.solver.log;
      budget = refl;
    }

pub returns-else-won-ne0-clause-closed : goal.returns-else-won-ne0-clause-closed
returns-else-won-ne0-clause-closed c =
    let same = same_about c.args.words.now c.args.self.now.question.now c.args.self.now.seat c.requires.sits c.requires.post.view in
    let var = c.var-var.ensures.value in
    let group : c.group_of.result ≡ (c.args.lit.var - 1) / 32 = c.group_of.ensures ∙ ap (λ (x : ℕ). (x - 1) / 32) var in
    let mask : c.bit_of.result ≡ 2 ^ ((c.args.lit.var - 1) % 32) = c.bit_of.ensures ∙ ap (λ (x : ℕ). 2 ^ ((x - 1) % 32)) var in
    let range = c.var-var.ensures.range in
    let low : 0 < c.args.lit.var = omega (arith, range.0, var) in
    let inside = group_low c.args.self.now.question.now.formula c.args.lit.var c.group_of.result c.requires.shown group in
    fixed_closed c.args.self.now.question.now c.args.self.now.seat c.fix_bits-won.new.seat c.args.lit.var c.group_of.result c.bit_of.result
    c.fix_bits-won.result c.fix_bits-won.ensures.fixed c.requires.post.view inside low group mask
