-- Counting up finds the least, and there is no other.
use Rattle.std.proofs.Common.{◌≡◌, ℕ, zero, suc, ◌+◌, ◌<◌, ◌≤◌, Bool, true, false, ◌⊎◌, sym, refl, ◌∙◌, subst, inl, inr, true≢false, zero-le, add-zero, eq-or-lt_of_le, zero-add, arith}
use Rattle.charge.specs.Least.{count_up, least, Least}

module _ (test : ℕ → Bool) where
  -- from a k that is not past it
  counted : (steps k : ℕ) {n : ℕ} → Least test n → k ≤ n → n ≤ k + steps → count_up test steps (test k) k ≡ n
  unfolding count_up
  counted zero k l low high = omega arith
  counted (suc steps) k {n} l low high = go (test k) refl (eq-or-lt_of_le low) (λ less. counted steps (suc k) l less (omega arith))
    where
      go : (b : Bool) → test k ≡ b → (k ≡ n) ⊎ (k < n) → (suc k ≤ n → count_up test steps (test (suc k)) (suc k) ≡ n) → count_up test (suc steps) b k ≡ n
      go true e (inl same) on = same
      go true e (inr less) on = absurd (true≢false (sym e ∙ l.first k less))
      go false e (inl same) on = absurd (true≢false (sym l.passes ∙ subst (λ (x : ℕ). test x ≡ false) same e))
      go false e (inr less) on = on less

  pub least_is : (most : ℕ) {n : ℕ} → Least test n → n ≤ most → n ≡ least test most
  unfolding least
  least_is most l h = sym (counted most 0 l zero-le (omega arith))

  -- where `most` passes, what is counted up to is the least
  climbed : (steps k : ℕ) → ((j : ℕ) → j < k → test j ≡ false) → test (k + steps) ≡ true → Least test (count_up test steps (test k) k)
  unfolding count_up
  climbed zero k before h = record { passes = rw (add-zero k) at h; first = before }
  climbed (suc steps) k before h = go (test k) refl (λ e. climbed steps (suc k) (next e) (subst (λ (x : ℕ). test x ≡ true) (omega arith) h))
    where
      next : test k ≡ false → (j : ℕ) → j < suc k → test j ≡ false
      next e j l = elim (eq-or-lt_of_le l) [
        | inl same ↦ let s : k ≡ j = omega arith in subst (λ (x : ℕ). test x ≡ false) s e
        | inr less ↦ before j (omega arith)
      ]

      go : (b : Bool) → test k ≡ b → (test k ≡ false → Least test (count_up test steps (test (suc k)) (suc k))) → Least test (count_up test (suc steps) b k)
      go true e on = record { passes = e; first = before }
      go false e on = on e

  pub least_passes : (most : ℕ) → test most ≡ true → Least test (least test most)
  unfolding least
  least_passes most h = climbed most 0 (λ j l. absurd (omega arith)) (rw (zero-add most) h)
