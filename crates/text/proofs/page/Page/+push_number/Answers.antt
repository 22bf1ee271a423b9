-- The last digit stands behind the digits before it, which are put there first.
use Rattle.std.proofs.Common.{◌≡◌, ℕ, ◌+◌, ◌/◌, ◌%◌, ◌^◌, ◌<◌, ◌≤◌, List, [], ◌∷◌, ◌++◌, take, decimal, sym, ap, ◌∙◌, append_assoc, arith}
use Rattle.std.proofs.lemmas.Fmt.{decimal_digit, decimal_step}
use Rattle.text.specs.declared.page.Page.{Page}
use Rattle.text.specs.Shown.{shown}
use Rattle.text.proofs.Fits.{pushed}
use Rattle.text.proofs.page.Page.+push_number.Goals as goal
use Rattle.text.proofs.page.Page.+push_number.Goals.{then-n-ge10, else-n-ge10}

-- the last digit of a number, as a text
abbrev last : ℕ → List ℕ
last n = (48 + n % 10) ∷ []

-- a number of one digit
one_digit : (k n : ℕ) (xs : List ℕ) → n < 10 → take k (xs ++ last n) ≡ take k (xs ++ decimal n)
one_digit k n xs l =
    let e : n % 10 ≡ n = omega arith in
    ap (λ (ys : List ℕ). take k (xs ++ ys)) (ap (λ (d : ℕ). (48 + d) ∷ []) e ∙ sym (decimal_digit n l))

-- a number of more digits
more_digits : (k n : ℕ) {was after : List ℕ} (xs : List ℕ) → 10 ≤ n → n < 2 ^ 64 → was ≡ take k (xs ++ decimal (n / 10)) →
    after ≡ take k (was ++ last n) → after ≡ take k (xs ++ decimal n)
more_digits k n xs l m w a =
    pushed k (xs ++ decimal (n / 10)) (last n) w a
    ∙ ap (take k) (append_assoc xs (decimal (n / 10)) (last n) ∙ ap (λ (ys : List ℕ). xs ++ ys) (sym (decimal_step n l m)))

pub returns : goal.returns
returns t c =
    let n = c.args.n in
    let xs = shown c.args.self.now in
    let was = c.if-n-ge10.self in
    let digit : shown c.push.new.self ≡ take 512 (shown was ++ last n) = c.push.ensures in
    elim c.if-n-ge10.branch [
      | then-n-ge10 w ↦
          let front : shown w.push_number.new.self ≡ take 512 (xs ++ decimal (n / 10)) = w.push_number.ensures in
          more_digits 512 n xs w.if-n-ge10.true (omega arith) (ap shown w.self-is ∙ front) digit
      | else-n-ge10 w ↦
          digit ∙ ap (λ (p : Page). take 512 (shown p ++ last n)) w.self-is ∙ one_digit 512 n xs w.if-n-ge10.false
    ]
