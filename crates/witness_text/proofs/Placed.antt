-- The bit of a variable in a model of a block.
use Rattle.std.proofs.Common.{◌≡◌, ℕ, ◌+◌, ◌-◌, ◌*◌, ◌/◌, ◌%◌, ◌^◌, ◌<◌, ◌≤◌, ◌==◌, List, [], length, get_or, take, set, drop, bit_and, sym, ap, ◌∙◌, mul_comm, false, Bool, ◌++◌, ◌∷◌, arith}
use Rattle.std.specs.Int.{bit_at}
use Rattle.std.proofs.lemmas.List.{get_or_read, take_more, take_more_set, take_all, length-set}
use Rattle.std.proofs.lemmas.Nat.Bits.{shr_and_one}
use Rattle.cnf_core.specs.Literals.{Assignment, value_of, with_value}
use Rattle.model_store.specs.Steps.Packed.{words_for, unpacked, all_unpacked}
use Rattle.model_store.proofs.Words.{length-unpacked, value_of-unpacked, bit_value-drop}
use Rattle.model_store.proofs.Blocks.{length-all_unpacked, all_unpacked_at, place_within}
use Rattle.witness_text.specs.Models.{model_in}
use Rattle.witness_text.specs.Steps.Blocks.{IsPacked}

-- what a view tells of the count
pub count_of_view : (words : List ℕ) (n count : ℕ) (models : List Assignment) → all_unpacked words n count ≡ models
    → count ≡ length models
count_of_view words n count models view = sym (length-all_unpacked words n count) ∙ ap (λ (xs : List Assignment). length xs) view

-- a model of a block
pub model_in_view : (words : List ℕ) (n count : ℕ) (models : List Assignment) (m : ℕ) → all_unpacked words n count ≡ models
    → m < length models → model_in models m ≡ unpacked (drop (words_for n * m) words) n
model_in_view words n count models m view below =
    sym (ap (λ (xs : List Assignment). model_in xs m) view)
    ∙ all_unpacked_at words n count m [] (omega (arith, count_of_view words n count models view))

-- it has as many values as there are variables
pub length-model_in : (words : List ℕ) (n count : ℕ) (models : List Assignment) (m : ℕ) → all_unpacked words n count ≡ models
    → m < length models → length (model_in models m) ≡ n
length-model_in words n count models m view below =
    ap (λ (a : Assignment). length a) (model_in_view words n count models m view below)
    ∙ length-unpacked (drop (words_for n * m) words) n

-- the word of a variable in a model is one of the block
pub word_within : (words : List ℕ) (n count : ℕ) (models : List Assignment) (w m v : ℕ) → all_unpacked words n count ≡ models
    → IsPacked words n count → w ≡ words_for n → m < length models → 0 < v → v ≤ length (model_in models m)
    → m * w + (v - 1) / 64 < length words
word_within words n count models w m v view block is below low high =
    let m_below : m < count = omega (arith, count_of_view words n count models view) in
    let v_high : v ≤ n = omega (arith, length-model_in words n count models m view below) in
    let column : (v - 1) / 64 < w = omega arith in
    let whole : length words ≡ w * count = block.whole ∙ ap (λ (k : ℕ). k * count) (sym is) in
    omega (arith, place_within w count m m_below, mul_comm m w)

-- the bit that is read is the value in the model
pub bit_is_value : (words : List ℕ) (n count : ℕ) (models : List Assignment) (w m v word : ℕ) → all_unpacked words n count ≡ models
    → IsPacked words n count → w ≡ words_for n → m < length models → 0 < v → v ≤ length (model_in models m)
    → word ≡ get_or words (m * w + (v - 1) / 64) word
    → (bit_and (word / 2 ^ ((v - 1) % 64)) 1 == 1) ≡ value_of (model_in models m) v
bit_is_value words n count models w m v word view block is below low high read =
    let within : m * w + (v - 1) / 64 < length words = word_within words n count models w m v view block is below low high in
    let v_high : v ≤ n = omega (arith, length-model_in words n count models m view below) in
    let place : m * w + (v - 1) / 64 ≡ words_for n * m + (v - 1) / 64 =
    ap (λ (k : ℕ). k + (v - 1) / 64) (mul_comm m w ∙ ap (λ (k : ℕ). k * m) is) in
    let value_in : value_of (model_in models m) v
    ≡ (bit_at (get_or words (words_for n * m + (v - 1) / 64) 0) ((v - 1) % 64) == 1) =
    ap (λ (a : Assignment). value_of a v) (model_in_view words n count models m view below)
    ∙ value_of-unpacked (drop (words_for n * m) words) n v low v_high
    ∙ bit_value-drop words (words_for n * m) (v - 1) in
    ap (λ (b : ℕ). b == 1) (shr_and_one word ((v - 1) % 64))
    ∙ ap (λ (x : ℕ). bit_at x ((v - 1) % 64) == 1)
    (get_or_read words (m * w + (v - 1) / 64) word within read 0 ∙ ap (λ (k : ℕ). get_or words k 0) place)
    ∙ sym value_in

-- the values so far are the model's
pub record IsCopied (model values : Assignment) (k : ℕ) : Type 0 where
  pub len : length values ≡ length model
  pub front : take k values ≡ take k model

pub copied-more : (model values : Assignment) (k : ℕ) (value : Bool) → IsCopied model values k → k < length model
    → value ≡ value_of model (k + 1) → IsCopied model (with_value values (k + 1) value) (k + 1)
copied-more model values k value so_far below is =
    let place : k + 1 - 1 ≡ k = omega arith in
    let within : k < length values = omega (arith, so_far.len) in
    let here : value ≡ get_or model k false = is ∙ ap (λ (i : ℕ). get_or model i false) place in
    record {
      len = length-set values (k + 1 - 1) value ∙ so_far.len;
      front =
          ap (λ (i : ℕ). take (k + 1) (set values i value)) place
          ∙ take_more_set values k value within
          ∙ ap (λ (xs : List Bool). xs ++ value ∷ []) so_far.front
          ∙ ap (λ (x : Bool). take k model ++ x ∷ []) here
          ∙ sym (take_more model k false below);
    }

pub copied-all : (model values : Assignment) (k : ℕ) → IsCopied model values k → length model ≤ k → values ≡ model
copied-all model values k copied le =
    sym (take_all k values (omega (arith, copied.len))) ∙ copied.front ∙ take_all k model le
