use Rattle.std.proofs.Common.{◌≡◌, ℕ, ◌+◌, ◌<◌, ◌≤◌, List, length, get_or, ap, ◌∙◌, subst, arith}
use Rattle.std.proofs.lemmas.List.{get_or_read}
use Rattle.cert_merge.proofs.Places.{same_place}
use Rattle.cert_merge.proofs.Numbers.{place_read, found_place}
use Rattle.cert_merge.proofs.order.MergedOrder.place_at.Goals as goal
use Rattle.cert_merge.proofs.order.MergedOrder.place_at.Goals.{After-from}

pub returns : goal.returns
returns c logs are =
    let starts = c.args.self.now.starts.items in
    let g = c.log_of-log.result in
    let n = c.index-number.result.now in
    let within : g < length starts = subst (λ (xs : List ℕ). g < length xs) c.deref.ensures.value c.log_of-log.ensures.within in
    let from : get_or starts g 0 ≤ n = subst (λ (xs : List ℕ). get_or xs g 0 ≤ n) c.deref.ensures.value c.log_of-log.ensures.from in
    let to : g + 1 < length starts → n < get_or starts (g + 1) 0 =
    subst (λ (xs : List ℕ). g + 1 < length xs → n < get_or xs (g + 1) 0) c.deref.ensures.value c.log_of-log.ensures.to in
    let start : c.index.result.now ≡ get_or starts g 0 = get_or_read starts g c.index.result.now within c.index.ensures 0 in
    place_read logs c.args.self.now.numbers.items c.args.k n (record { log = g; entry = c.from.result }) c.requires.within
    c.index-number.ensures
    (found_place logs starts g n are within from to ∙ same_place _ _ (omega arith) (omega (arith, start, c.from.ensures)))
