-- The clauses that may go, gathered.
use Rattle.std.proofs.Common.{◌≡◌, ℕ, ◌+◌, ◌^◌, ◌<◌, Bool, true, false, cond, List, [], ◌∷◌, ◌++◌}
use Rattle.std.proofs.Common.{sym, ap, ap₂, ◌∙◌, append-nil, arith}
use Rattle.std.proofs.lemmas.List.FromFn.{filter_of_map_range_with_len_more}
use Rattle.std.proofs.lemmas.List.{map-append}
use Rattle.std.proofs.lemmas.List.Elements.{All-push}
use Rattle.clause_arena.specs.Entries.{Entries, len_of}
use Rattle.search_policy.specs.Steps.Candidates.{may_go, may_go_upto, AreCandidates}
use Rattle.search_policy.specs.declared.removals.Candidate.{Candidate}

pub may_go_more : (a : Entries) (marks : List Bool) (n : ℕ)
    → may_go_upto a marks (n + 1) ≡ may_go_upto a marks n ++ cond (may_go a marks n) (n ∷ []) []
may_go_more a marks n = filter_of_map_range_with_len_more (may_go a marks) (λ r. r) 0 n n (omega arith)

pub more_candidates : (a : Entries) (marks : List Bool) (n : ℕ) (cs : List Candidate) (c : Candidate) → AreCandidates a marks n cs
    → may_go a marks n ≡ true → c.clause ≡ n → c.len ≡ len_of a n → c.len < 2 ^ 64
    → AreCandidates a marks (n + 1) (cs ++ c ∷ [])
more_candidates a marks n cs c before goes clause len fits =
    record {
      clauses = map-append (λ (d : Candidate). d.clause) cs (c ∷ []) ∙ ap₂ (λ (xs ys : List ℕ). xs ++ ys) before.clauses
          (ap (λ (r : ℕ). r ∷ []) clause ∙ sym (ap (λ (b : Bool). cond b (n ∷ []) []) goes)) ∙ sym (may_go_more a marks n);
      lengths = All-push (λ (d : Candidate). (d.len ≡ len_of a d.clause) × (d.len < 2 ^ 64)) cs c before.lengths
          (len ∙ ap (len_of a) (sym clause), fits);
    }

pub same_candidates : (a : Entries) (marks : List Bool) (n : ℕ) (cs : List Candidate) → AreCandidates a marks n cs
    → may_go a marks n ≡ false → AreCandidates a marks (n + 1) cs
same_candidates a marks n cs before stays =
    record {
      clauses = before.clauses ∙ sym (append-nil (may_go_upto a marks n))
          ∙ ap (λ (ys : List ℕ). may_go_upto a marks n ++ ys) (sym (ap (λ (b : Bool). cond b (n ∷ []) []) stays))
          ∙ sym (may_go_more a marks n);
      lengths = before.lengths;
    }
