-- The laws of `before` and `after`, as a search for the next separator meets them.
use Rattle.std.proofs.Common.{◌≡◌, ◌≢◌, ℕ, zero, suc, ◌+◌, ◌-◌, ◌<◌, ◌≤◌, List, [], ◌∷◌, Bool, true, false, cond, length, drop, take, get_or, Some, None, refl, ap, arith, eq-eqb, ne_eqb}
use Rattle.std.specs.Borrow.{Bor}
use Rattle.std.specs.Prelude.{Option, eqb}
use Rattle.std.specs.Option.{option_copied, unwrap_or}
use Rattle.sheet.specs.Fields.{before, after, past}

-- ---- where the first c stands, and where none does

pub first_c : (c : ℕ) (l : List ℕ) (i : ℕ) → i < length l → get_or l i 0 ≡ c → ((k : ℕ) → k < i → get_or l k 0 ≢ c)
    → (take i l ≡ before c l) × (past c l ≡ Some (drop (suc i) l))
unfolding before past
first_c c [] i h e n = absurd (omega arith)
first_c c (x ∷ l) zero h e n = (simp (eq-eqb x c e), simp (eq-eqb x c e))
first_c c (x ∷ l) (suc i) h e n =
    let other : eqb x c ≡ false = ne_eqb x c (n 0 (omega arith)) in
    let later = first_c c l i (omega arith) e (λ k q. n (suc k) (omega arith)) in
    (rw other (ap (λ (m : List ℕ). x ∷ m) later.0), rw other later.1)

pub no_c : (c : ℕ) (l : List ℕ) (i : ℕ) → length l ≤ i → ((k : ℕ) → k < i → get_or l k 0 ≢ c) → (l ≡ before c l) × (past c l ≡ None)
unfolding before past
no_c c [] i h n = (refl, refl)
no_c c (x ∷ l) zero h n = absurd (omega arith)
no_c c (x ∷ l) (suc i) h n =
    let other : eqb x c ≡ false = ne_eqb x c (n 0 (omega arith)) in
    let later = no_c c l i (omega arith) (λ k q. n (suc k) (omega arith)) in
    (rw other (ap (λ (m : List ℕ). x ∷ m) later.0), rw other later.1)

-- the bytes before a c are the first ones
pub before_take : (c : ℕ) (l : List ℕ) → take (length (before c l)) l ≡ before c l
unfolding before
before_take c [] = refl
before_take c (x ∷ l) = go (before_take c l) (eqb x c)
  where
    go : take (length (before c l)) l ≡ before c l → (b : Bool) → take (length (cond b [] (x ∷ before c l))) (x ∷ l) ≡ cond b [] (x ∷ before c l)
    go ih true = refl
    go ih false = ap (λ (m : List ℕ). x ∷ m) ih

pub after_short : (c : ℕ) (l : List ℕ) → length (after c l) ≤ length l - (length (before c l) + 1)
unfolding after before
after_short c [] = omega arith
after_short c (x ∷ l) = go (after_short c l) (eqb x c)
  where
    go : length (after c l) ≤ length l - (length (before c l) + 1)
        → (b : Bool) → length (cond b l (after c l)) ≤ suc (length l) - (length (cond b [] (x ∷ before c l)) + 1)
    go ih true = omega arith
    go ih false = omega arith

pub after_past : (c : ℕ) (l : List ℕ) → after c l ≡ unwrap_or (past c l) []
unfolding after past
after_past c [] = refl
after_past c (x ∷ l) = go (after_past c l) (eqb x c)
  where
    go : after c l ≡ unwrap_or (past c l) [] → (b : Bool) → cond b l (after c l) ≡ unwrap_or (cond b (Some l) (past c l)) []
    go ih true = refl
    go ih false = ih

-- a part that is past the first c, or else the default, as `unwrap_or` gives it
pub past_or : (r : Option (Bor (List ℕ))) (d : Bor (List ℕ)) (o : Option (List ℕ)) → option_copied r ≡ o → d.now ≡ [] → (unwrap_or r d).now ≡ unwrap_or o []
past_or None d o e n = rw (← e) n
past_or (Some x) d o e n = rw (← e) refl
