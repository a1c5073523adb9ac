-- No log is full where the budget is enough.
use Rattle.std.proofs.Common.{◌≡◌, ℕ, ◌+◌, ◌-◌, ◌*◌, ◌^◌, ◌<◌, ◌≤◌, arith}
use Rattle.std.proofs.Math.Nat.{mul-le-mul_right}
use Rattle.lrat_log.specs.Entries.{learnt_count}
use Rattle.lrat_log.specs.Laws.{learning_queries, NoLogIsFull}
use Rattle.lrat_log.proofs.LearntClauses.{query_is_short}
use Rattle.lrat_log.proofs.QueryCounts.{learnt_by_queries}

-- a product with one less is less
product_below : (a b p : ℕ) → 0 < a → 0 < p → b ≤ a * (p - 1) → b < a * p
product_below a b p some power most =
    let r = p - 1 in
    let next : p ≡ r + 1 = omega arith in
    let split : a * (r + 1) ≡ a * r + a = grind arith in
    rw next (omega arith)

eightfold : (a b : ℕ) → 8 * a * b ≡ (2 * a) * (4 * b)
eightfold a b = grind arith

pub no_log_is_full : NoLogIsFull
no_log_is_full F budget es most full =
    let p = 4 * 3 ^ F.vars in
    let each : learnt_count es ≤ learning_queries es * (p - 1) =
    learnt_by_queries es (p - 1) (λ q. omega (arith, query_is_short F es q full.each_next)) in
    let all : learning_queries es * (p - 1) ≤ (2 * (F.vars + 1)) * (p - 1) = mul-le-mul_right (p - 1) full.few_queries in
    let below : learnt_count es < (2 * (F.vars + 1)) * p =
    product_below (2 * (F.vars + 1)) (learnt_count es) p (omega arith)
    (omega (arith, query_is_short F es 0 full.each_next)) (omega arith) in
    omega (arith, full.spent, eightfold (F.vars + 1) (3 ^ F.vars))
