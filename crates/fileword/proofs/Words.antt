-- The parts of each kind of word, and a word from its parts.
use Rattle.std.proofs.Common.{◌≡◌, ℕ, ◌+◌, ◌*◌, ◌^◌, ◌<◌, arith}
use Rattle.fileword.specs.Layout.{kind, load, upper, lower, head_marks, head_k, word, head_word}

pub kind_word : (k l : ℕ) → l < 2 ^ 28 → kind (word k l) ≡ k
kind_word k l h = omega arith

pub load_word : (k l : ℕ) → l < 2 ^ 28 → load (word k l) ≡ l
load_word k l h = omega arith

pub word_back : (w : ℕ) → word (kind w) (load w) ≡ w
word_back w = omega arith

-- a word of two fields of 14 bits
pub kind_fields : (k a b : ℕ) → a < 2 ^ 14 → b < 2 ^ 14 → kind (word k (a * 2 ^ 14 + b)) ≡ k
kind_fields k a b g h = omega arith

pub upper_fields : (k a b : ℕ) → a < 2 ^ 14 → b < 2 ^ 14 → upper (word k (a * 2 ^ 14 + b)) ≡ a
upper_fields k a b g h = omega arith

pub lower_fields : (k a b : ℕ) → a < 2 ^ 14 → b < 2 ^ 14 → lower (word k (a * 2 ^ 14 + b)) ≡ b
lower_fields k a b g h = omega arith

pub fields_back : (k w : ℕ) → kind w ≡ k → word k (upper w * 2 ^ 14 + lower w) ≡ w
fields_back k w e = omega arith

-- a word of one field of 14 bits, the other spare
pub upper_field : (k b : ℕ) → b < 2 ^ 14 → upper (word k b) ≡ 0
upper_field k b h = omega arith

pub lower_field : (k b : ℕ) → b < 2 ^ 14 → lower (word k b) ≡ b
lower_field k b h = omega arith

pub field_back : (k w : ℕ) → kind w ≡ k → upper w ≡ 0 → word k (lower w) ≡ w
field_back k w e s = omega arith

-- the head
pub kind_head : (n k : ℕ) → n < 2 ^ 8 → k < 2 ^ 8 → kind (head_word n k) ≡ 1
kind_head n k g h = omega arith

pub load_head : (n k : ℕ) → n < 2 ^ 8 → k < 2 ^ 8 → load (head_word n k) < 2 ^ 16
load_head n k g h = omega arith

pub marks_of_head : (n k : ℕ) → n < 2 ^ 8 → k < 2 ^ 8 → head_marks (head_word n k) ≡ n
marks_of_head n k g h = omega arith

pub k_of_head : (n k : ℕ) → n < 2 ^ 8 → k < 2 ^ 8 → head_k (head_word n k) ≡ k
k_of_head n k g h = omega arith

pub head_back : (w : ℕ) → kind w ≡ 1 → load w < 2 ^ 16 → head_word (head_marks w) (head_k w) ≡ w
head_back w e s = omega arith
