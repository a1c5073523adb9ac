use Rattle.std.proofs.Common.{[], refl, sym, ap, subst, arith}
use Rattle.std.specs.Prelude.{slice_index}
use Rattle.std.specs.Vec.{vec_capacity}
use Rattle.std.proofs.lemmas.List.{append-nil}
use Rattle.board_core.specs.Subjects.{About}
use Rattle.board_core.specs.Rules.{IsView, IsOnce}
use Rattle.candidate_words.specs.Seats.{Sitter}
use Rattle.worker_loop.proofs.Imports.{same_about}
use Rattle.worker_loop.proofs.Dropped.{each_opposed, room_for, told_dropped, won_of_mask, clocked_dropped, seen_later, bit_closed}
use Rattle.worker_loop.proofs.post.Post.drop_mask.Goals as goal

pub drop_bits-won-requires-clause-mask : goal.drop_bits-won-requires-clause-mask
drop_bits-won-requires-clause-mask c =
    each_opposed c.args.self.now.question.now c.args.words.now.about c.args.self.now.models c.args.source c.args.group c.args.mask
    (same_about c.args.words.now c.args.self.now.question.now c.args.self.now.seat c.requires.sits c.requires.post.view) c.requires.mask

pub record_drops-requires-clause-room : goal.record_drops-requires-clause-room
record_drops-requires-clause-room c =
    let same = same_about c.args.words.now c.args.self.now.question.now c.args.self.now.seat c.requires.sits c.requires.post.view in
    let once : IsOnce c.args.self.now.question.now c.drop_bits-won.new.seat.view =
    subst (λ (a : About). IsOnce a c.drop_bits-won.new.seat.view) same c.drop_bits-won.ensures.once in
    let room = room_for c.args.self.now.question.now c.args.self.now.seat c.drop_bits-won.new.seat c.args.group c.args.mask
    c.drop_bits-won.result
    (vec_capacity c.args.self.now.drops) c.args.self.now.drops.items c.drop_bits-won.ensures.dropped once c.requires.post.told.drops_are
    c.requires.post.rooms.drops in
    omega (arith, room)

pub returns-clause-post : goal.returns-clause-post
returns-clause-post c =
    let same = same_about c.args.words.now c.args.self.now.question.now c.args.self.now.seat c.requires.sits c.requires.post.view in
    record {
      some = c.requires.post.some;
      limit = c.requires.post.limit;
      is_model = c.requires.post.is_model;
      view = subst (λ (a : About). IsView a c.drop_bits-won.new.seat.view) same c.drop_bits-won.ensures.sits.view;
      once = subst (λ (a : About). IsOnce a c.drop_bits-won.new.seat.view) same c.drop_bits-won.ensures.once;
      told = told_dropped c.args.self.now.question.now c.args.self.now.seat c.drop_bits-won.new.seat c.args.self.now.models
          c.args.self.now.solver.log c.args.group c.args.mask c.drop_bits-won.result c.args.source c.args.self.now.drops.items
          c.record_drops.new.drops.items c.args.self.now.fixes.items c.drop_bits-won.ensures.dropped c.requires.post.told c.requires.mask
          (λ i low on. won_of_mask c.args.self.now.seat c.drop_bits-won.new.seat c.args.group c.args.mask c.drop_bits-won.result i
          c.drop_bits-won.ensures.dropped on)
          c.record_drops.ensures.items;
      clocked = clocked_dropped c.args.self.now.question.now c.args.self.now.seat c.drop_bits-won.new.seat c.args.self.now.solver.log
          c.args.group c.args.mask c.drop_bits-won.result c.drop_bits-won.ensures.dropped c.requires.post.clocked;
      rooms = record {
        drops = omega (arith, c.requires.post.rooms.drops, c.record_drops.ensures.room);
        fixes = c.requires.post.rooms.fixes;
      };
      loaded = c.requires.post.loaded;
      rooted_length = c.requires.post.rooted_length;
      rooted = c.requires.post.rooted;
      first_group = c.requires.post.first_group;
      marks = c.requires.post.marks;
      walker = c.requires.post.walker;
      jumper = c.requires.post.jumper;
      clock = c.requires.post.clock;
      budget = c.requires.post.budget;
      few = c.requires.post.few;
    }

pub returns-clause-onward : goal.returns-clause-onward
returns-clause-onward c =
    let seat = c.drop_bits-won.ensures.dropped.seat in
    record {
      question = refl;
      table = ap (λ (u : Sitter). u.table) seat;
      number = ap (λ (u : Sitter). u.view.number) seat;
      next = ap (λ (u : Sitter). u.view.next) seat;
      out = ap (λ (u : Sitter). u.view.out) seat;
      loaded = ap (λ (u : Sitter). u.view.loaded) seat;
      loads = ap (λ (u : Sitter). u.view.loads) seat;
      copy = refl;
      seen = seen_later c.args.self.now.question.now c.args.self.now.seat c.drop_bits-won.new.seat c.args.group c.args.mask
          c.drop_bits-won.result
          c.drop_bits-won.ensures.dropped c.requires.post.view c.requires.group (omega arith);
      looks = λ x.
          let here = ap (λ (u : Sitter). slice_index u.view.looks x) seat in
          omega (arith, here);
      imports = ap (λ (u : Sitter). u.view.imports) seat;
      log = record { formula = refl; more = []; entries = sym (append-nil c.args.self.now.solver.log.entries) };
      budget = refl;
    }

pub returns-clause-dropped : goal.returns-clause-dropped
returns-clause-dropped c = λ i within on.
    bit_closed c.args.self.now.question.now c.args.self.now.seat c.drop_bits-won.new.seat c.args.group c.args.mask c.drop_bits-won.result i
    c.drop_bits-won.ensures.dropped c.requires.post.view c.requires.group (omega arith) within on
