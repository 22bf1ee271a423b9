-- There is one verdict on a file's bytes.
use Rattle.std.proofs.Common.{◌≡◌, ℕ, List, Ok, Err, Result, sym, refl, ap, ◌∙◌, subst, None}
use Rattle.fileword.specs.Faults.{Judged}
use Rattle.fileword.specs.declared.files.Summary.{Summary}
use Rattle.fileword.specs.declared.files.FileRefusal.{FileRefusal}
use Rattle.fileword.proofs.Verdict.{one_verdict}
use Rattle.page.specs.Bytes.{Stores}
use Rattle.page.specs.Verdicts.{OneVerdict}
use Rattle.page.specs.declared.verdict.Refusal.{Refusal}
use Rattle.page.specs.declared.verdict.Refusal.TheVariants.{NotWords, Word}
use Rattle.page.proofs.Storing.{words_known}

-- a verdict on words as one on bytes
abbrev on_bytes : Result Summary FileRefusal → Result Summary Refusal
on_bytes (Ok f) = Ok f
on_bytes (Err r) = Err (Word r)

same_words : (bs : List ℕ) (u v : Result Summary FileRefusal) → (ws : List ℕ) × Stores bs ws × Judged None ws u → (ws : List ℕ) × Stores bs ws × Judged None ws v → u ≡ v
same_words bs u v p q =
    let P : List ℕ → Type 0 = λ ws. Judged None ws v in
    one_verdict None p.0 u v p.2 (subst P (words_known q.0 p.0 (q.1 ∙ sym p.1)) q.2)

pub one_on_bytes : OneVerdict
one_on_bytes bs (Ok f) (Ok g) p q = ap on_bytes (same_words bs (Ok f) (Ok g) (p.1.0, p.1.1, (p.1.2, refl)) (q.1.0, q.1.1, (q.1.2, refl)))
one_on_bytes bs (Ok f) (Err (Word r)) p q = ap on_bytes (same_words bs (Ok f) (Err r) (p.1.0, p.1.1, (p.1.2, refl)) q.1)
one_on_bytes bs (Ok f) (Err NotWords) p q = absurd (q p.0)
one_on_bytes bs (Err (Word r)) (Ok g) p q = ap on_bytes (same_words bs (Err r) (Ok g) p.1 (q.1.0, q.1.1, (q.1.2, refl)))
one_on_bytes bs (Err (Word r)) (Err (Word s)) p q = ap on_bytes (same_words bs (Err r) (Err s) p.1 q.1)
one_on_bytes bs (Err (Word r)) (Err NotWords) p q = absurd (q p.0)
one_on_bytes bs (Err NotWords) (Ok g) p q = absurd (p q.0)
one_on_bytes bs (Err NotWords) (Err (Word s)) p q = absurd (p q.0)
one_on_bytes bs (Err NotWords) (Err NotWords) p q = refl
