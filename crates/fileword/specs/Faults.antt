-- What may be wrong with a word, and how a file is refused. Assumes nothing.
use Rattle.std.specs.Prelude.{◌≡◌, ℕ, ◌+◌, ◌-◌, ◌*◌, ◌/◌, ◌%◌, ◌^◌, ◌<◌, Bool, true, false, cond, not, ◌&&◌, ◌||◌, List, [], ◌∷◌, length, Ok, Err, Result, ◌==◌, nat_le, nat_lt, slice_index, Some, None, Option}
use Rattle.fileword.specs.Layout.{kind, load, upper, lower, head_marks, head_k}
use Rattle.fileword.specs.Files.{Good}
use Rattle.fileword.specs.declared.files.Form.{Form}
use Rattle.fileword.specs.declared.files.Form.TheVariants.{Pairs, Measured}
use Rattle.fileword.specs.declared.files.Summary.{Summary}
use Rattle.fileword.specs.declared.files.Fault.{Fault}
use Rattle.fileword.specs.declared.files.Fault.TheVariants.{WrongKind, SpareBit, OutOfRange, WrongPair, WrongEnd, NoEnd}
use Rattle.fileword.specs.declared.files.FileRefusal.{FileRefusal}

-- the number of each refusal
abbrev pub number : Fault → ℕ
number WrongKind = 11
number SpareBit = 12
number OutOfRange = 13
number WrongPair = 14
number WrongEnd = 15
number NoEnd = 16

-- the word at a place; past the end it is 0, which is of no kind
abbrev pub at : List ℕ → ℕ → ℕ
at ws p = slice_index ws p

-- how many marks the head says there are, and for which k
abbrev pub marks_said : List ℕ → ℕ
marks_said ws = head_marks (at ws 0)

abbrev pub k_said : List ℕ → ℕ
k_said ws = head_k (at ws 0)

-- the word after the head decides: kind 7 begins a measured file
abbrev pub measured : List ℕ → Bool
measured ws = kind (at ws 1) == 7

-- a kind that may stand after the head, for a reader who wants this form, or either if it is none
abbrev pub may_begin : Option Form → ℕ → Bool
may_begin None k = (k == 2 || k == 15) || k == 7
may_begin (Some Pairs) k = k == 2 || k == 15
may_begin (Some Measured) k = k == 7

-- kinds 3, 4, 5, 6 for each of n marks in turn, from place 2 on, and then an end; nothing after it
abbrev pub in_measured : ℕ → ℕ → ℕ → Bool
in_measured n p k = cond (nat_lt p (2 + 4 * n)) (k == 3 + (p - 2) % 4) (p == 2 + 4 * n && k == 15)

-- a pair or the end, unless the word before was the end
abbrev pub in_pairs : ℕ → ℕ → Bool
in_pairs before k = not (before == 15) && (k == 2 || k == 15)

-- the kind of the word at place p may stand there
abbrev pub may_stand : Option Form → List ℕ → ℕ → Bool
may_stand wanted ws p =
    cond (p == 0) (kind (at ws 0) == 1)
    (cond (p == 1) (may_begin wanted (kind (at ws 1)))
    (cond (measured ws) (in_measured (marks_said ws) p (kind (at ws p))) (in_pairs (kind (at ws (p - 1))) (kind (at ws p)))))

-- bits 27 to 16 of a head, and bits 27 to 14 of a z word, are spare
abbrev pub spare_set : ℕ → Bool
spare_set w =
    (kind w == 1 && not (load w / 2 ^ 16 == 0)) || ((kind w == 4 || kind w == 6) && not (upper w == 0))

-- a head for at most 128 marks, and for k from 1 to 16
abbrev pub in_range : ℕ → Bool
in_range w = nat_le (head_marks w) 128 && (nat_le 1 (head_k w) && nat_le (head_k w) 16)

-- the pair of a word comes after that of the word before, by its first mark and then by its second
abbrev pub comes_after : ℕ → ℕ → Bool
comes_after before w = nat_lt (upper before) (upper w) || (upper before == upper w && nat_lt (lower before) (lower w))

-- a pair of two marks below n, the lower first, after the pair before it
abbrev pub pair_fits : ℕ → ℕ → ℕ → ℕ → Bool
pair_fits n p before w = (nat_lt (upper w) (lower w) && nat_lt (lower w) n) && (p == 1 || comes_after before w)

-- what the end's load must be: the number of marks, or of pairs, which stand from place 1 on
abbrev pub end_load : List ℕ → ℕ → ℕ
end_load ws p = cond (measured ws) (marks_said ws) (p - 1)

-- no word is an end
abbrev pub lacks_end : List ℕ → Bool
lacks_end [] = true
lacks_end (w ∷ ws) = not (kind w == 15) && lacks_end ws

-- the word at place p has the fault. Only a word has a fault, but for the want of an end, at the place after the last word
abbrev pub faulty : Option Form → List ℕ → ℕ → Fault → Bool
faulty wanted ws p WrongKind = nat_lt p (length ws) && not (may_stand wanted ws p)
faulty wanted ws p SpareBit = nat_lt p (length ws) && spare_set (at ws p)
faulty wanted ws p OutOfRange = nat_lt p (length ws) && (p == 0 && not (in_range (at ws 0)))
faulty wanted ws p WrongPair = nat_lt p (length ws) && (kind (at ws p) == 2 && not (pair_fits (marks_said ws) p (at ws (p - 1)) (at ws p)))
faulty wanted ws p WrongEnd = nat_lt p (length ws) && (kind (at ws p) == 15 && not (load (at ws p) == end_load ws p))
faulty wanted ws p NoEnd = p == length ws && lacks_end ws

-- no word before the place has a fault, the word there has this one, and none that is looked for before it
pub record Refused (wanted : Option Form) (ws : List ℕ) (r : FileRefusal) : Type 0 where
  pub clean : (p : ℕ) → p < r.place → (f : Fault) → faulty wanted ws p f ≡ false
  pub first : (f : Fault) → number f < number r.fault → faulty wanted ws r.place f ≡ false
  pub this : faulty wanted ws r.place r.fault ≡ true

-- the forms that a reader takes who wants this form, or either if it is none
abbrev pub takes : Option Form → Form → Bool
takes None f = true
takes (Some Pairs) Pairs = true
takes (Some Pairs) Measured = false
takes (Some Measured) Pairs = false
takes (Some Measured) Measured = true

-- a reader's verdict on a file
abbrev pub Judged : Option Form → List ℕ → Result Summary FileRefusal → Type 0
Judged wanted ws (Ok f) = Good ws f × (takes wanted f.form ≡ true)
Judged wanted ws (Err r) = Refused wanted ws r
