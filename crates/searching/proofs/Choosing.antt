-- The mark to split by is found, and there is one.
use Rattle.std.proofs.Common.{◌≡◌, ℕ, ◌-◌, true, false, ◌⊎◌, Some, None, Option, sym, ap, ◌∙◌, ap₂, inl, inr, arith}
use Rattle.std.proofs.lemmas.Bool.{cases_lt, cases_Bool, cases_eq, and_parts, true≢false}
use Rattle.plex.specs.Sets.{Set, Agreement, card, ◌∩◌, ◌∪◌, Within}
use Rattle.plex.specs.Least.{Least}
use Rattle.plex.proofs.Count.{card_le, card_less, card_some}
use Rattle.plex.proofs.Least.{least_is, least_unique}
use Rattle.searching.specs.First.{agreements_inside}
use Rattle.searching.specs.Steps.{Most, tight, SplitMark}
use Rattle.searching.specs.Computed.{pick_from, first_of, pick}

-- there is a mark of s below n, or none
pub some_or_none : (n : ℕ) (s : Set) → Within n s → ((v : ℕ) × (s v ≡ true)) ⊎ ((v : ℕ) → s v ≡ false)
some_or_none n s w =
    elim (cases_lt 0 (card n s)) [
      | inl l ↦ (let v = card_some n s l in inl (v.0, v.2))
      | inr l ↦ inr (λ v. elim (cases_Bool (s v)) [ inl t ↦ absurd (omega (arith, card_less n s v (w v t) t)) | inr f ↦ f ])
    ]

-- what is picked is the mark to split by, and where nothing is picked there is no candidate
abbrev pub PickedAt : ℕ → ℕ → Agreement → Set → Set → Option ℕ → Type 0
PickedAt n k a s c None = (i : ℕ) → c i ≡ false
PickedAt n k a s c (Some u) = SplitMark n k a s c u

module _ (n k : ℕ) (a : Agreement) (s c : Set) (w : Within n c) where
  abbrev short : ℕ → ℕ
  short v = n - agreements_inside n a (s ∪ c) v

  most_of_least : (p : Set) (u : ℕ) → Within n p → Least n p short (Some u) → Most n a s c p u
  most_of_least p u wp l = record {
    member = l.1;
    most = λ v t. omega (arith, l.2 v (wp v t) t, card_le n ((s ∪ c) ∩ a v), card_le n ((s ∪ c) ∩ a u));
    lowest = λ v t e. elim (cases_lt v u) [
      | inl m ↦ absurd (omega (arith, l.3 v m t, card_le n ((s ∪ c) ∩ a v), card_le n ((s ∪ c) ∩ a u)))
      | inr m ↦ m
    ];
  }

  least_of_most : (p : Set) (u : ℕ) → Within n p → Most n a s c p u → Least n p short (Some u)
  least_of_most p u wp m = (
    wp u m.member,
    m.member,
    (λ i l t. omega (arith, m.most i t)),
    (λ i l t.
        let x = m.most i t in
        let y = m.lowest i t in
        let z = card_le n ((s ∪ c) ∩ a u) in
        elim (cases_eq (agreements_inside n a (s ∪ c) i) (agreements_inside n a (s ∪ c) u)) [
          | inl e ↦ absurd (omega (arith, y e))
          | inr e ↦ omega arith
        ]),
  )

  tight_within : Within n (tight n k a s c)
  tight_within i t = w i (and_parts (c i) _ t).0

  abbrev Picked : Option ℕ → Type 0
  Picked o = PickedAt n k a s c o

  none_in : (p : Set) → Within n p → Least n p short None → (i : ℕ) → p i ≡ false
  none_in p wp l i = elim (cases_Bool (p i)) [ inl t ↦ l i (wp i t) | inr f ↦ f ]

  first_is : (o o' : Option ℕ) → Least n (tight n k a s c) short o → Least n c short o' → Picked (first_of o o')
  first_is None None l m = none_in c w m
  first_is None (Some u) l m = record {
    among_tight = λ v t. absurd (true≢false (sym t ∙ none_in (tight n k a s c) tight_within l v));
    among_all = λ _. most_of_least c u w m;
  }
  first_is (Some u) o' l m = record {
    among_tight = λ _ _. most_of_least (tight n k a s c) u tight_within l;
    among_all = λ h. absurd (true≢false (sym l.1 ∙ h u));
  }

  pub pick_is : Picked (pick n k a s c)
  pick_is =
      first_is (pick_from n a s c (tight n k a s c)) (pick_from n a s c c) (least_is n (tight n k a s c) short) (least_is n c short)

  -- and the mark to split by is picked
  pub split_picked : (u : ℕ) → SplitMark n k a s c u → pick n k a s c ≡ Some u
  split_picked u h =
      elim (some_or_none n (tight n k a s c) tight_within) [
        | inl v ↦ ap (λ o. first_of o (pick_from n a s c c))
            (least_unique n (tight n k a s c) short _ (Some u) (least_is n (tight n k a s c) short)
            (least_of_most (tight n k a s c) u tight_within (h.among_tight v.0 v.1)))
        | inr f ↦ ap₂ first_of
            (least_unique n (tight n k a s c) short _ None (least_is n (tight n k a s c) short) (λ i _. f i))
            (least_unique n c short _ (Some u) (least_is n c short) (least_of_most c u w (h.among_all f)))
      ]
