-- What the tests of a word say of its parts, and which parts pass them.
use Rattle.std.proofs.Common.{◌≡◌, ℕ, ◌+◌, ◌-◌, ◌*◌, ◌%◌, ◌<◌, ◌≤◌, Bool, true, false, cond, not, ◌&&◌, ◌||◌, eqb, ltb, leb, ◌⊎◌, inl, inr, arith, Some, None, Option}
use Rattle.std.proofs.lemmas.Bool.{cases_lt, cases_eq}
use Rattle.std.proofs.lemmas.Bool.Decides.{nat_tests}
use Rattle.fileword.specs.Faults.{may_begin, in_measured, in_pairs, takes}
use Rattle.fileword.specs.declared.files.Form.{Form}
use Rattle.fileword.specs.declared.files.Form.TheVariants.{Pairs, Measured}

-- what may begin, and is not a tolerance, is a pair or the end, and the reader takes pairs
pub begins_pairs : (wanted : Option Form) (k : ℕ) → may_begin wanted k ≡ true → eqb k 7 ≡ false → (k ≡ 2) ⊎ (k ≡ 15)
begins_pairs None k h e = grind (arith, nat_tests)
begins_pairs (Some Pairs) k h e = grind (arith, nat_tests)
begins_pairs (Some Measured) k h e = grind (arith, nat_tests)

pub takes_pairs : (wanted : Option Form) (k : ℕ) → may_begin wanted k ≡ true → eqb k 7 ≡ false → takes wanted Pairs ≡ true
takes_pairs None k h e = grind (arith, nat_tests)
takes_pairs (Some Pairs) k h e = grind (arith, nat_tests)
takes_pairs (Some Measured) k h e = grind (arith, nat_tests)

pub takes_measured : (wanted : Option Form) (k : ℕ) → may_begin wanted k ≡ true → eqb k 7 ≡ true → takes wanted Measured ≡ true
takes_measured None k h e = grind (arith, nat_tests)
takes_measured (Some Pairs) k h e = grind (arith, nat_tests)
takes_measured (Some Measured) k h e = grind (arith, nat_tests)

-- and back
pub pairs_begin : (wanted : Option Form) (k : ℕ) → takes wanted Pairs ≡ true → (k ≡ 2) ⊎ (k ≡ 15) → may_begin wanted k ≡ true
pairs_begin None k h e = grind (arith, nat_tests)
pairs_begin (Some Pairs) k h e = grind (arith, nat_tests)
pairs_begin (Some Measured) k h e = grind (arith, nat_tests)

pub measured_begins : (wanted : Option Form) (k : ℕ) → takes wanted Measured ≡ true → k ≡ 7 → may_begin wanted k ≡ true
measured_begins None k h e = grind (arith, nat_tests)
measured_begins (Some Pairs) k h e = grind (arith, nat_tests)
measured_begins (Some Measured) k h e = grind (arith, nat_tests)

-- from place 2 on the form says what may stand
pub stands_in_pairs_lem : (p : ℕ) (a b m x y : Bool) → 2 ≤ p → m ≡ false → cond (eqb p 0) a (cond (eqb p 1) b (cond m x y)) ≡ y
stands_in_pairs_lem p a b m x y l e = grind (arith, nat_tests)

pub stands_in_measured_lem : (p : ℕ) (a b m x y : Bool) → 2 ≤ p → m ≡ true → cond (eqb p 0) a (cond (eqb p 1) b (cond m x y)) ≡ x
stands_in_measured_lem p a b m x y l e = grind (arith, nat_tests)

pub pair_or_end : (before k : ℕ) → in_pairs before k ≡ true → (before ≡ 15 → ⊥) × ((k ≡ 2) ⊎ (k ≡ 15))
pair_or_end before k h = (grind (arith, nat_tests), grind (arith, nat_tests))

pub pair_or_end_stands : (before k : ℕ) → before ≡ 2 → (k ≡ 2) ⊎ (k ≡ 15) → in_pairs before k ≡ true
pair_or_end_stands before k g h = grind (arith, nat_tests)

pub mark_or_end : (n p k : ℕ) → in_measured n p k ≡ true → ((p < 2 + 4 * n) × (k ≡ 3 + (p - 2) % 4)) ⊎ ((p ≡ 2 + 4 * n) × (k ≡ 15))
mark_or_end n p k h =
    elim (cases_lt p (2 + 4 * n)) [
      | inl l ↦ inl (l, grind (arith, nat_tests))
      | inr l ↦ inr (grind (arith, nat_tests), grind (arith, nat_tests))
    ]

pub mark_stands : (n p k : ℕ) → p < 2 + 4 * n → k ≡ 3 + (p - 2) % 4 → in_measured n p k ≡ true
mark_stands n p k l e = grind (arith, nat_tests)

pub end_stands_measured : (n p k : ℕ) → p ≡ 2 + 4 * n → k ≡ 15 → in_measured n p k ≡ true
end_stands_measured n p k l e = grind (arith, nat_tests)

-- spare bits: k is the kind, l the load above the head's fields, u the upper field
pub no_spare_head : (k l u : ℕ) → ((eqb k 1 && not (eqb l 0)) || ((eqb k 4 || eqb k 6) && not (eqb u 0))) ≡ false → k ≡ 1 → l ≡ 0
no_spare_head k l u h e = grind (arith, nat_tests)

pub no_spare_z : (k l u : ℕ) → ((eqb k 1 && not (eqb l 0)) || ((eqb k 4 || eqb k 6) && not (eqb u 0))) ≡ false →
    (k ≡ 4) ⊎ (k ≡ 6) → u ≡ 0
no_spare_z k l u h (inl e) = grind (arith, nat_tests)
no_spare_z k l u h (inr e) = grind (arith, nat_tests)

pub spare_clear : (k l u : ℕ) → (k ≡ 1 → l ≡ 0) → ((k ≡ 4) ⊎ (k ≡ 6) → u ≡ 0) →
    ((eqb k 1 && not (eqb l 0)) || ((eqb k 4 || eqb k 6) && not (eqb u 0))) ≡ false
spare_clear k l u g h =
    elim (cases_eq k 1) [
      | inl e ↦ (let z = g e in grind (arith, nat_tests))
      | inr e ↦ elim (cases_eq k 4) [
        | inl f ↦ (let z = h (inl f) in grind (arith, nat_tests))
        | inr f ↦ elim (cases_eq k 6) [ inl i ↦ (let z = h (inr i) in grind (arith, nat_tests)) | inr i ↦ grind (arith, nat_tests) ]
      ]
    ]

pub ranges : (n k : ℕ) → (leb n 128 && (leb 1 k && leb k 16)) ≡ true → (n ≤ 128) × (1 ≤ k) × (k ≤ 16)
ranges n k h = (grind (arith, nat_tests), grind (arith, nat_tests), grind (arith, nat_tests))

pub ranges_from : (n k : ℕ) → n ≤ 128 → 1 ≤ k → k ≤ 16 → (leb n 128 && (leb 1 k && leb k 16)) ≡ true
ranges_from n k a b c = grind (arith, nat_tests)

-- a pair at place p, its marks u and l among n; whether it comes after the pair before
pub names : (n p u l : ℕ) (after : Bool) → ((ltb u l && ltb l n) && (eqb p 1 || after)) ≡ true → (u < l) × (l < n)
names n p u l after h = (grind (arith, nat_tests), grind (arith, nat_tests))

pub follows : (n p u l : ℕ) (after : Bool) → ((ltb u l && ltb l n) && (eqb p 1 || after)) ≡ true → 2 ≤ p → after ≡ true
follows n p u l after h m = grind (arith, nat_tests)

pub pair_passes : (n p u l : ℕ) (after : Bool) → u < l → l < n → (p ≡ 1) ⊎ (after ≡ true) →
    ((ltb u l && ltb l n) && (eqb p 1 || after)) ≡ true
pair_passes n p u l after g h (inl e) = grind (arith, nat_tests)
pair_passes n p u l after g h (inr e) = grind (arith, nat_tests)

pub later : (u l v m : ℕ) → (ltb u v || (eqb u v && ltb l m)) ≡ true → (u < v) ⊎ ((u ≡ v) × (l < m))
later u l v m h =
    elim (cases_lt u v) [ inl g ↦ inl g | inr g ↦ inr (grind (arith, nat_tests), grind (arith, nat_tests)) ]

pub later_passes : (u l v m : ℕ) → (u < v) ⊎ ((u ≡ v) × (l < m)) → (ltb u v || (eqb u v && ltb l m)) ≡ true
later_passes u l v m (inl g) = grind (arith, nat_tests)
later_passes u l v m (inr g) = grind (arith, nat_tests)
