-- An offered list, judged over 128 marks, is judged as the definition says.
use Rattle.std.proofs.Common.{◌≡◌, ℕ, ◌≤◌, min, true, false, List, Some, None, Option, sym, ap, ◌∙◌, subst, arith}
use Rattle.std.proofs.lemmas.Bool.{both_ways}
use Rattle.plex.specs.Sets.{Agreement, card, Kplex, Within, is_kplex, among}
use Rattle.plex.proofs.Decide.{kplex_decides}
use Rattle.marks.specs.declared.set.MarkSet.{MarkSet}
use Rattle.marks.specs.Members.{members}
use Rattle.searching.specs.Calls.{RisingMarks}
use Rattle.held.specs.Reading.{ReadsList}
use Rattle.searching.proofs.Branches.{plex_beyond}
use Rattle.searching.proofs.Offering.{rising_in}
use Rattle.search.proofs.Narrowing.{count_same, plex_within}

-- what was read of a list, of the number of marks and of what was answered as they stand elsewhere
pub was_read : (n n' : ℕ) (list : List ℕ) (o o' : Option MarkSet) → n' ≡ n → o' ≡ o → ReadsList n' list o' → ReadsList n list o
was_read n n' list o o' e f read = subst (λ x. ReadsList x list o) e (subst (ReadsList n' list) f read)

pub not_rising : (n : ℕ) → n ≤ 128 → (list : List ℕ) → ReadsList n list None → RisingMarks n list → ⊥
not_rising n few list read rises = let e : n ≡ min n 128 = omega arith in read (subst (λ x. RisingMarks x list) e rises)

module _ (n : ℕ) (few : n ≤ 128) (list : List ℕ) (group : MarkSet) (read : ReadsList n list (Some group)) where
  same : members group ≡ among list
  same = read.1

  pub marks_rise : RisingMarks n list
  marks_rise = let e : min n 128 ≡ n = omega arith in subst (λ x. RisingMarks x list) e read.0

  within_list : Within n (among list)
  within_list = rising_in n list marks_rise

  -- the set counts as the list does
  pub group_size : card 128 (members group) ≡ card n (among list)
  group_size = ap (card 128) same ∙ count_same n few (among list) within_list

  pub group_in : Within n (members group)
  group_in = subst (Within n) (sym same) within_list

  below : Within 128 (among list)
  below i t = omega (arith, within_list i t)

  pub offered_plex : (k : ℕ) (a : Agreement) → is_kplex 128 k a (members group) ≡ true → Kplex n k a (among list)
  offered_plex k a e =
      plex_within n few k a (among list) within_list ((kplex_decides 128 k a (among list) below).0 (ap (is_kplex 128 k a) (sym same) ∙ e))

  pub offered_none : (k : ℕ) (a : Agreement) → is_kplex 128 k a (members group) ≡ false → Kplex n k a (among list) → ⊥
  offered_none k a e q =
      both_ways (is_kplex 128 k a (members group)) e (ap (is_kplex 128 k a) same ∙ (kplex_decides 128 k a (among list) below).1 (plex_beyond n k a (among list) few q))
