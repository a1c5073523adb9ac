use Rattle.std.proofs.Common.{◌∙◌, sym, subst}
use Rattle.cnf_core.specs.Literals.{Literals, AreWithin}
use Rattle.worker_loop.proofs.Words.{block_within}
use Rattle.worker_loop.proofs.Blocked.{within_against}
use Rattle.worker_loop.proofs.Slices.{post_queried, looking_refl, looked}
use Rattle.worker_loop.proofs.post.Post.is_easy.Goals as goal

pub against-requires-clause-block : goal.against-requires-clause-block
against-requires-clause-block g c =
    block_within c.args.self.now.loaded.items c.args.block.now c.args.self.now.question.now.formula.vars 256 c.requires.block

pub slice-requires-clause-post : goal.slice-requires-clause-post
slice-requires-clause-post g c =
    post_queried c.args.self.now c.begin.new.self c.requires.post c.begin.ensures.log c.begin.ensures.count

pub slice-requires-clause-assume : goal.slice-requires-clause-assume
slice-requires-clause-assume g c =
    let p = c.args.self.now in
    subst (λ (ls : Literals). AreWithin p.question.now.formula.vars ls) (sym (c.deref.ensures.value ∙ c.in_ok-assume.ensures))
    (within_against p.question.now.phases p.loaded.items c.args.block.now p.question.now.formula.vars 256 c.requires.block)

pub returns-in_err-assume : goal.returns-in_err-assume
returns-in_err-assume g c = record { looking = looking_refl c.args.self.now c.requires.post }

pub returns-in-Found : goal.returns-in-Found
returns-in-Found g c = record {
  looking = looked c.args.self.now c.slice.new.self c.begin.new.self c.begin.ensures.log c.begin.ensures.count c.slice.ensures.post
      c.slice.ensures.seat c.slice.ensures.onward c.slice.ensures.models c.slice.ensures.log c.slice.ensures.most;
}

pub returns : goal.returns
returns g c = record {
  looking = looked c.args.self.now c.slice.new.self c.begin.new.self c.begin.ensures.log c.begin.ensures.count c.slice.ensures.post
      c.slice.ensures.seat c.slice.ensures.onward c.slice.ensures.models c.slice.ensures.log c.slice.ensures.most;
}
