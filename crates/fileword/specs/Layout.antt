-- The layout of a file's words. The top four bits of a word are its kind, the other 28 its load. Assumes nothing.
use Rattle.std.specs.Prelude.{◌≡◌, ℕ, ◌+◌, ◌-◌, ◌*◌, ◌/◌, ◌%◌, ◌^◌, cond, List, [], ◌∷◌, ℤ, pos, negsuc, nat_lt, Some, None, Option}
use Rattle.plex.specs.Distance.{Point}
use Rattle.fileword.specs.declared.layout.Kind.{Kind}
use Rattle.fileword.specs.declared.layout.Kind.TheVariants.{Head, Pair, PlannedXy, PlannedZ, SeenXy, SeenZ, Tolerance, StruckPair, End}

abbrev pub kind : ℕ → ℕ
kind w = w / 2 ^ 28

-- the number of each kind
abbrev pub kind_number : Kind → ℕ
kind_number Head = 1
kind_number Pair = 2
kind_number PlannedXy = 3
kind_number PlannedZ = 4
kind_number SeenXy = 5
kind_number SeenZ = 6
kind_number Tolerance = 7
kind_number StruckPair = 14
kind_number End = 15

-- a number is that of a kind, or of no kind at all
abbrev pub KindIs : ℕ → Option Kind → Type 0
KindIs m (Some k) = m ≡ kind_number k
KindIs m None = (k : Kind) → m ≡ kind_number k → ⊥

abbrev pub load : ℕ → ℕ
load w = w % 2 ^ 28

-- bits 27 to 14 of a word, and bits 13 to 0
abbrev pub upper : ℕ → ℕ
upper w = load w / 2 ^ 14

abbrev pub lower : ℕ → ℕ
lower w = w % 2 ^ 14

-- a head's number of marks, bits 7 to 0, and its k, bits 15 to 8
abbrev pub head_marks : ℕ → ℕ
head_marks w = w % 2 ^ 8

abbrev pub head_k : ℕ → ℕ
head_k w = w / 2 ^ 8 % 2 ^ 8

abbrev pub word : ℕ → ℕ → ℕ
word kind load = kind * 2 ^ 28 + load

abbrev pub head_word : ℕ → ℕ → ℕ
head_word marks k = word 1 (k * 2 ^ 8 + marks)

abbrev pub pair_word : ℕ → ℕ → ℕ
pair_word a b = word 2 (a * 2 ^ 14 + b)

abbrev pub tolerance_word : ℕ → ℕ
tolerance_word t = word 7 t

abbrev pub end_word : ℕ → ℕ
end_word m = word 15 m

-- a coordinate in 14 bits of two's complement, and back
abbrev pub fourteen_bits : ℤ → ℕ
fourteen_bits (pos m) = m
fourteen_bits (negsuc m) = 16383 - m

abbrev pub coordinate : ℕ → ℤ
coordinate v = cond (nat_lt v 8192) (pos v) (negsuc (16383 - v))

-- a point's two words: x and y, then z
abbrev pub point_words : ℕ → Point → List ℕ
point_words k p = word k (fourteen_bits p.x * 2 ^ 14 + fourteen_bits p.y) ∷ word (k + 1) (fourteen_bits p.z) ∷ []

-- the point that two words give
abbrev pub point_of : ℕ → ℕ → Point
point_of v w = record { x = coordinate (upper v); y = coordinate (lower v); z = coordinate (lower w) }
