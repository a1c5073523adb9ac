use Rattle.std.proofs.Common.{◌<◌, refl, sym, ap, ◌∙◌, subst, arith}
use Rattle.std.specs.Prelude.{slice_index}
use Rattle.board_core.specs.Subjects.{About, groups}
use Rattle.board_core.specs.Rules.{IsView, IsOnce}
use Rattle.candidate_words.specs.Seats.{Sitter}
use Rattle.worker_loop.proofs.Onward.{longer_refl}
use Rattle.worker_loop.proofs.Imports.{same_about}
use Rattle.worker_loop.proofs.Dropped.{clocked_same}
use Rattle.worker_loop.proofs.Fixed.{told_same}
use Rattle.worker_loop.proofs.Refreshed.{drops_refreshed, seen_refreshed, refreshed_closed}
use Rattle.worker_loop.proofs.post.Post.is_open_now.Goals as goal

pub refresh-word-requires-clause-group : goal.refresh-word-requires-clause-group
refresh-word-requires-clause-group c =
    let same = same_about c.args.words.now c.args.self.now.question.now c.args.self.now.seat c.requires.sits c.requires.post.view in
    let low = c.requires.var.0 in
    let high = c.requires.var.1 in
    let group = c.group_of.ensures in
    subst (λ (a : About). c.group_of.result < groups a.formula.vars) (sym same) (omega arith)

pub returns-clause-post : goal.returns-clause-post
returns-clause-post c =
    let same = same_about c.args.words.now c.args.self.now.question.now c.args.self.now.seat c.requires.sits c.requires.post.view in
    let s = c.args.self.now.seat in
    let t = c.refresh-word.new.seat in
    let seat = c.refresh-word.ensures.refreshed.seat in
    record {
      some = c.requires.post.some;
      limit = c.requires.post.limit;
      is_model = c.requires.post.is_model;
      view = subst (λ (a : About). IsView a c.refresh-word.new.seat.view) same c.refresh-word.ensures.sits.view;
      once = subst (λ (a : About). IsOnce a c.refresh-word.new.seat.view) same c.refresh-word.ensures.once;
      told = told_same c.args.self.now.question.now s.view t.view c.args.self.now.models c.args.self.now.solver.log
          c.args.self.now.drops.items c.args.self.now.fixes.items
          (drops_refreshed s t c.group_of.result c.refresh-word.result c.refresh-word.ensures.refreshed)
          (ap (λ (r : Sitter). r.view.fixes) seat) c.requires.post.told;
      clocked = clocked_same c.args.self.now.question.now s.view t.view c.args.self.now.solver.log (ap (λ
          (r : Sitter). r.view.imports) seat)
          (ap (λ (r : Sitter). r.view.published) seat) (ap (λ (r : Sitter). r.view.fixes) seat) c.requires.post.clocked;
      rooms = record { drops = c.requires.post.rooms.drops; fixes = c.requires.post.rooms.fixes };
      loaded = c.requires.post.loaded;
      rooted_length = c.requires.post.rooted_length;
      rooted = c.requires.post.rooted;
      first_group = c.requires.post.first_group;
      marks = c.requires.post.marks;
      walker = c.requires.post.walker;
      jumper = c.requires.post.jumper;
      clock = c.requires.post.clock;
      budget = c.requires.post.budget;
      few = c.requires.post.few;
    }

pub returns-clause-onward : goal.returns-clause-onward
returns-clause-onward c =
    let seat = c.refresh-word.ensures.refreshed.seat in
    let low = c.requires.var.0 in
    let high = c.requires.var.1 in
    let group = c.group_of.ensures in
    record {
      question = refl;
      table = ap (λ (u : Sitter). u.table) seat;
      number = ap (λ (u : Sitter). u.view.number) seat;
      next = ap (λ (u : Sitter). u.view.next) seat;
      out = ap (λ (u : Sitter). u.view.out) seat;
      loaded = ap (λ (u : Sitter). u.view.loaded) seat;
      loads = ap (λ (u : Sitter). u.view.loads) seat;
      copy = refl;
      seen = seen_refreshed c.args.self.now.question.now c.args.self.now.seat c.refresh-word.new.seat c.group_of.result
          c.refresh-word.result
          c.refresh-word.ensures.refreshed c.requires.post.view (omega arith);
      looks = λ x. omega (arith, ap (λ (u : Sitter). slice_index u.view.looks x) seat);
      imports = ap (λ (u : Sitter). u.view.imports) seat;
      log = longer_refl c.args.self.now.solver.log;
      budget = refl;
    }

pub returns-clause-open : goal.returns-clause-open
returns-clause-open c = λ none.
    refreshed_closed c.args.self.now.question.now c.args.self.now.seat c.refresh-word.new.seat c.args.var c.group_of.result
    c.refresh-word.result
    c.open_bits.result c.refresh-word.ensures.refreshed c.requires.post.view c.requires.var.0 c.requires.var.1 c.group_of.ensures
    c.refresh-word.type_inv c.open_bits.ensures (sym c.has_bit.ensures ∙ none)
