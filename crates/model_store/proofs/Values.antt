-- The bit of a variable in a stored model.
use Rattle.std.proofs.Common.{◌≡◌, ℕ, ◌+◌, ◌-◌, ◌*◌, ◌/◌, ◌%◌, ◌^◌, ◌<◌, ◌≤◌, ◌==◌, List, [], length, get_or, drop, bit_and, sym, ap, ◌∙◌, mul_comm, arith}
use Rattle.std.specs.Int.{bit_at}
use Rattle.std.proofs.lemmas.List.{get_or_read}
use Rattle.std.proofs.lemmas.Nat.Bits.{shr_and_one}
use Rattle.cnf_core.specs.Literals.{Assignment, value_of}
use Rattle.cnf_core.specs.Formulas.{Cnf}
use Rattle.model_store.specs.Steps.Packed.{words_for, all_unpacked}
use Rattle.model_store.specs.Stores.{Store, store_of, model_at}
use Rattle.model_store.specs.Steps.Blocks.{IsBlock}
use Rattle.model_store.proofs.Words.{value_of-unpacked, bit_value-drop}
use Rattle.model_store.proofs.Blocks.{all_unpacked_at, place_within}
use Rattle.model_store.proofs.Grown.{count_of_view, formula_of_view}

-- the word of a variable in a model is one of the block
place_below : (n w count m v : ℕ) → w ≡ words_for n → m < count → 0 < v → v ≤ n
    → m * w + (v - 1) / 64 < w * count
place_below n w count m v is below low high =
    let column : (v - 1) / 64 < w = omega arith in
    omega (arith, place_within w count m below, mul_comm m w)

-- the same by what a view tells
pub word_within : (words : List ℕ) (F : Cnf) (count : ℕ) (s : Store) (w m v : ℕ)
    → store_of F (all_unpacked words F.vars count) ≡ s → IsBlock words F count → w ≡ words_for F.vars
    → m < length s.models → 0 < v → v ≤ s.formula.vars → m * w + (v - 1) / 64 < length words
word_within words F count s w m v view block is below low high =
    let counted : count ≡ length s.models = count_of_view words F count s view in
    let vars : F.vars ≡ s.formula.vars = ap (λ (G : Cnf). G.vars) (formula_of_view words F count s view) in
    let m_below : m < count = omega arith in
    let v_high : v ≤ F.vars = omega arith in
    let placed : m * w + (v - 1) / 64 < w * count = place_below F.vars w count m v is m_below low v_high in
    let whole : length words ≡ w * count = block.whole ∙ ap (λ (k : ℕ). k * count) (sym is) in
    omega arith

-- the bit that is read is the value in the model
pub bit_is_value : (words : List ℕ) (F : Cnf) (count : ℕ) (s : Store) (w m v word : ℕ)
    → store_of F (all_unpacked words F.vars count) ≡ s → IsBlock words F count → w ≡ words_for F.vars
    → m < length s.models → 0 < v → v ≤ s.formula.vars
    → word ≡ get_or words (m * w + (v - 1) / 64) word
    → (bit_and (word / 2 ^ ((v - 1) % 64)) 1 == 1) ≡ value_of (model_at s m) v
bit_is_value words F count s w m v word view block is below low high read =
    let within : m * w + (v - 1) / 64 < length words =
    word_within words F count s w m v view block is below low high in
    let m_below : m < count = omega (arith, count_of_view words F count s view) in
    let v_high : v ≤ F.vars = omega (arith, ap (λ (G : Cnf). G.vars) (formula_of_view words F count s view)) in
    let place : m * w + (v - 1) / 64 ≡ words_for F.vars * m + (v - 1) / 64 =
    ap (λ (k : ℕ). k + (v - 1) / 64) (mul_comm m w ∙ ap (λ (k : ℕ). k * m) is) in
    let value_in : value_of (get_or (all_unpacked words F.vars count) m []) v
    ≡ (bit_at (get_or words (words_for F.vars * m + (v - 1) / 64) 0) ((v - 1) % 64) == 1) =
    ap (λ (a : Assignment). value_of a v) (all_unpacked_at words F.vars count m [] m_below)
    ∙ value_of-unpacked (drop (words_for F.vars * m) words) F.vars v low v_high
    ∙ bit_value-drop words (words_for F.vars * m) (v - 1) in
    ap (λ (b : ℕ). b == 1) (shr_and_one word ((v - 1) % 64))
    ∙ ap (λ (x : ℕ). bit_at x ((v - 1) % 64) == 1)
    (get_or_read words (m * w + (v - 1) / 64) word within read 0 ∙ ap (λ (k : ℕ). get_or words k 0) place)
    ∙ sym value_in
    ∙ ap (λ (t : Store). value_of (model_at t m) v) view
