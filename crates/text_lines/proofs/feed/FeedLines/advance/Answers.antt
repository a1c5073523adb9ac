-- A line with its line feed, or what is left at the end.
use Rattle.std.proofs.Common.{◌≡◌, ◌+◌, ℕ, List, false, length, Option, Some, None, sym, ◌∙◌, ap, subst, arith}
use Rattle.std.proofs.lemmas.List.{take_all, drop_all}
use Rattle.bone_desk.specs.Told.{Told}
use Rattle.text_lines.specs.Lines.{Line}
use Rattle.text_lines.specs.Progress.{Progress}
use Rattle.text_lines.specs.Steps.Onward.{IsOnward, EndsAt}
use Rattle.text_lines.proofs.Handing.{handed, handed_last}
use Rattle.text_lines.proofs.feed.FeedLines.advance.Goals as goal

pub returns-in-Some-clause-advanced : goal.returns-in-Some-clause-advanced
returns-in-Some-clause-advanced g c =
    let found = c.in_ok-place.ensures.found in
    let old = g.D.Desk.told c.args.desk.now in
    let new = g.D.Desk.told c.find_line_feed.new.desk in
    let going : c.args.self.now.over ≡ false = sym (ap (λ (p : Progress). p.over) c.self.view_is) ∙ c.if-self.false in
    let onward = subst (λ (q : Progress). IsOnward old new c.args.self.now q found.0) (sym c.self-2.view_is) found.1 in
    let ends = subst (λ (q : Progress). EndsAt q (Some c.in-Some.place)) (sym c.self-2.view_is)
    (subst (λ (o : Option ℕ). EndsAt c.find_line_feed.new.self o) c.in-Some.is found.2) in
    λ (limit : ℕ) (start : Told) (text : List ℕ) (done : List Line) h.
    handed found.0 c.in-Some.place c.cut.new.self.line c.cut.new.self.ahead h going onward ends.0 ends.1 c.cut.ensures.line c.cut.ensures.ahead

pub returns-in-None-clause-advanced : goal.returns-in-None-clause-advanced
returns-in-None-clause-advanced g c =
    let found = c.in_ok-place.ensures.found in
    let old = g.D.Desk.told c.args.desk.now in
    let new = g.D.Desk.told c.find_line_feed.new.desk in
    let going : c.args.self.now.over ≡ false = sym (ap (λ (p : Progress). p.over) c.self.view_is) ∙ c.if-self.false in
    let onward = subst (λ (q : Progress). IsOnward old new c.args.self.now q found.0) (sym c.self-2.view_is) found.1 in
    let ends = subst (λ (q : Progress). EndsAt q None) (sym c.self-2.view_is)
    (subst (λ (o : Option ℕ). EndsAt c.find_line_feed.new.self o) c.in-None.is found.2) in
    let ahead = c.self-2.inside.window.ahead in
    let size : length c.ahead-len.result.now ≡ length ahead = ap (λ (bytes : List ℕ). length bytes) c.ahead-len.ensures in
    let all = c.cut-in-None.ensures.line ∙ take_all (length c.ahead-len.result.now) ahead (omega (arith, size)) in
    let none = c.cut-in-None.ensures.ahead ∙ drop_all (length c.ahead-len.result.now + 0) ahead (omega (arith, size)) in
    λ (limit : ℕ) (start : Told) (text : List ℕ) (done : List Line) h.
    handed_last found.0 (length c.ahead-len.result.now) c.cut-in-None.new.self.line c.cut-in-None.new.self.ahead h going onward ends.0 ends.1 size all none
