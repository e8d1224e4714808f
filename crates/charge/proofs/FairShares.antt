-- The shares are as document 02 says, and no other list is.
use Rattle.std.proofs.Common.{◌≡◌, ℕ, zero, suc, ◌+◌, ◌-◌, ◌*◌, ◌/◌, ◌%◌, ◌<◌, ◌≤◌, List, [], ◌∷◌, ◌++◌, length, get_or, replicate, sym, refl, ◌∙◌, zero-le, mod-lt, suc-mul, le_antisymm, lt_of_not-le, zero-add, zero-mul, arith, length-append, get_or-append-add, ext_get_or}
use native.Mathlib.Nat.{div-add-mod}
use native.Mathlib.Decide.{dec_le}
use lib.ListN.{length-replicate, get_or-replicate, get_or-append}
use Rattle.charge.specs.Shares.{shares}
use Rattle.charge.specs.Fair.{total, Fair}

-- ---- runs of one value

total_append : (a b : List ℕ) → total (a ++ b) ≡ total a + total b
total_append [] b = sym (zero-add _)
total_append (x ∷ a) b = omega (arith, total_append a b)

total_replicate : (n v : ℕ) → total (replicate n v) ≡ n * v
total_replicate zero v = sym (zero-mul v)
total_replicate (suc n) v = omega (arith, total_replicate n v, suc-mul n v)

in_run : (n v : ℕ) (l : List ℕ) (i : ℕ) → i < n → get_or (replicate n v ++ l) i 0 ≡ v
in_run n v l i h = get_or-append (replicate n v) l 0 i (rw (length-replicate n v) h) ∙ get_or-replicate n i v 0 h

after_run : (n v : ℕ) (l : List ℕ) (i : ℕ) → n ≤ i → get_or (replicate n v ++ l) i 0 ≡ get_or l (i - n) 0
after_run n v l i h =
    let e : n + (i - n) ≡ i = omega arith in
    rw (length-replicate n v, e) at (get_or-append-add (replicate n v) l (i - n) 0)

pub getD_zeros : (n i : ℕ) → get_or {A = ℕ} (replicate n 0) i 0 ≡ 0
getD_zeros zero i = refl
getD_zeros (suc n) zero = refl
getD_zeros (suc n) (suc i) = getD_zeros n i

-- ---- the shares, place by place

-- v stands at the place i of r larger and then smaller shares, n in all, the smaller being q
data At (r n q i v : ℕ) : Type 0 where
  larger : i < r → v ≡ q + 1 → At r n q i v
  smaller : r ≤ i → i < n → v ≡ q → At r n q i v
  past : n ≤ i → v ≡ 0 → At r n q i v

module _ (charge children : ℕ) (some : 0 < children) where
  share_at : (i : ℕ) → At (charge % children) children (charge / children) i (get_or (shares charge children) i 0)
  unfolding shares
  share_at i =
      let share = charge / children in
      let rest = charge % children in
      let less : rest < children = mod-lt charge some in
      elim (dec_le (suc i) rest) [
        | yes l ↦ larger l (in_run rest (share + 1) _ i l)
        | no m ↦
            let low : rest ≤ i = omega (arith, lt_of_not-le m) in
            elim (dec_le (suc i) children) [
              | yes l ↦ smaller low l (after_run rest (share + 1) _ i low ∙ in_run (children - rest) share _ (i - rest) (omega arith))
              | no k ↦
                  let high : children ≤ i = omega (arith, lt_of_not-le k) in
                  past high (after_run rest (share + 1) _ i low ∙ after_run (children - rest) share _ (i - rest) (omega arith) ∙ getD_zeros (60 - children) _)
            ]
      ]

  long : children ≤ 60 → length (shares charge children) ≡ 60
  unfolding shares
  long few =
      let rest = charge % children in
      let less : rest < children = mod-lt charge some in
      rw (
        length-append (replicate rest (charge / children + 1)) (replicate (children - rest) (charge / children) ++ replicate (60 - children) 0),
        length-append (replicate (children - rest) (charge / children)) (replicate (60 - children) 0),
        length-replicate rest (charge / children + 1),
        length-replicate (children - rest) (charge / children),
        length-replicate {A = ℕ} (60 - children) 0,
      ) (omega arith)

  whole : total (shares charge children) ≡ charge
  unfolding shares
  whole =
      let share = charge / children in
      let rest = charge % children in
      let less : rest < children = mod-lt charge some in
      rw (
        total_append (replicate rest (share + 1)) (replicate (children - rest) share ++ replicate (60 - children) 0),
        total_append (replicate (children - rest) share) (replicate (60 - children) 0),
        total_replicate rest (share + 1),
        total_replicate (children - rest) share,
        total_replicate (60 - children) 0,
      ) (regroup rest children share (60 - children) (omega arith) ∙ div-add-mod charge children)
    where
      expanded : (r k q z : ℕ) → r * (q + 1) + (k * q + z * 0) ≡ (k + r) * q + r
      expanded r k q z = omega arith

      regroup : (r n q z : ℕ) → r ≤ n → r * (q + 1) + ((n - r) * q + z * 0) ≡ n * q + r
      regroup r n q z h = let e : n - r + r ≡ n = omega arith in rw e at (expanded r (n - r) q z)

  pub fair : children ≤ 60 → Fair charge children (shares charge children)
  fair few = record {
    sixty = long few;
    adds_up = whole;
    alike = λ i j h l. together (share_at i) (share_at j) h l;
    never_rise = λ i j h. falling (share_at i) (share_at j) h;
    past = λ i h. beyond (share_at i) h;
  }
    where
      less : charge % children < children
      less = mod-lt charge some

      together : {i j v w : ℕ} → At (charge % children) children (charge / children) i v → At (charge % children) children (charge / children) j w → i < children → j < children → v ≤ w + 1
      together (larger h e) (larger k f) a b = omega arith
      together (larger h e) (smaller k l f) a b = omega arith
      together (larger h e) (past k f) a b = absurd (omega arith)
      together (smaller h l e) (larger k f) a b = omega arith
      together (smaller h l e) (smaller k m f) a b = omega arith
      together (smaller h l e) (past k f) a b = absurd (omega arith)
      together (past h e) y a b = absurd (omega arith)

      falling : {i j v w : ℕ} → At (charge % children) children (charge / children) i v → At (charge % children) children (charge / children) j w → i ≤ j → w ≤ v
      falling (larger h e) (larger k f) a = omega arith
      falling (larger h e) (smaller k l f) a = omega arith
      falling x (past k f) a = omega arith
      falling (smaller h l e) (larger k f) a = absurd (omega arith)
      falling (smaller h l e) (smaller k m f) a = omega arith
      falling (past h e) (larger k f) a = absurd (omega (arith, less))
      falling (past h e) (smaller k l f) a = absurd (omega arith)

      beyond : {i v : ℕ} → At (charge % children) children (charge / children) i v → children ≤ i → v ≡ 0
      beyond (larger h e) a = absurd (omega (arith, less))
      beyond (smaller h l e) a = absurd (omega arith)
      beyond (past h e) a = e

-- ---- two lists that are fair are one

-- place by place at most, the total is at most, and less where one place is
total_le : (a b : List ℕ) → length a ≡ length b → ((i : ℕ) → get_or a i 0 ≤ get_or b i 0) → total a ≤ total b
total_le [] b e h = zero-le
total_le (x ∷ a) [] e h = absurd (omega arith)
total_le (x ∷ a) (y ∷ b) e h = omega (arith, h 0, total_le a b (omega arith) (λ i. h (suc i)))

total_lt : (a b : List ℕ) (i : ℕ) → length a ≡ length b → ((i : ℕ) → get_or a i 0 ≤ get_or b i 0) → get_or a i 0 < get_or b i 0 → total a < total b
total_lt [] [] i e h l = absurd (omega arith)
total_lt [] (y ∷ b) i e h l = absurd (omega arith)
total_lt (x ∷ a) [] i e h l = absurd (omega arith)
total_lt (x ∷ a) (y ∷ b) zero e h l = omega (arith, l, total_le a b (omega arith) (λ i. h (suc i)))
total_lt (x ∷ a) (y ∷ b) (suc i) e h l = omega (arith, h 0, total_lt a b i (omega arith) (λ i. h (suc i)) l)

-- where a share of a exceeds b's, no share of b exceeds a's
module _ {charge children : ℕ} {a b : List ℕ} (p : Fair charge children a) (q : Fair charge children b) where
  none_more : (i : ℕ) → get_or b i 0 < get_or a i 0 → (j : ℕ) → get_or b j 0 ≤ get_or a j 0
  none_more i l j = elim (dec_le (suc i) children) [
    | yes h ↦ elim (dec_le j i) [
      | yes k ↦ omega (arith, p.never_rise j i k, q.alike j i (omega arith) h)
      | no k ↦ elim (dec_le (suc j) children) [
        | yes m ↦ omega (arith, p.alike i j h m, q.never_rise i j (omega (arith, lt_of_not-le k)))
        | no m ↦ omega (arith, q.past j (omega (arith, lt_of_not-le m)))
      ]
    ]
    | no h ↦ absurd (omega (arith, p.past i (omega (arith, lt_of_not-le h))))
  ]

  at_most : (i : ℕ) → get_or a i 0 ≤ get_or b i 0
  at_most i = elim (dec_le (get_or a i 0) (get_or b i 0)) [
    | yes h ↦ h
    | no h ↦
        let l = lt_of_not-le h in
        absurd (omega (arith, total_lt b a i (q.sixty ∙ sym p.sixty) (none_more i l) l, p.adds_up, q.adds_up))
  ]

one_list : {charge children : ℕ} {a b : List ℕ} → Fair charge children a → Fair charge children b → a ≡ b
one_list {a = a} {b} p q = ext_get_or 0 a b (p.sixty ∙ sym q.sixty) (λ i h. le_antisymm (at_most p q i) (at_most q p i))

pub only : (charge children : ℕ) → 0 < children → children ≤ 60 → {l : List ℕ} → Fair charge children l → l ≡ shares charge children
only charge children some few p = one_list p (fair charge children some few)
