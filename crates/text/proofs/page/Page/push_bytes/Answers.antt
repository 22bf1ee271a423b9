-- Of the bytes there stand behind the text as many as there is room for.
use Rattle.std.proofs.Common.{◌≡◌, ◌+◌, ◌-◌, ◌++◌, ℕ, List, length, min, take, ap, ◌∙◌, arith, length-take}
use Rattle.std.proofs.lemmas.Slice.{take-put_mid}
use Rattle.text.proofs.Fits.{put_behind}
use Rattle.text.proofs.page.Page.push_bytes.Goals as goal

pub returns : goal.returns
returns c =
    let p = c.args.self.now in
    let ys = c.args.more.now in
    let part = c.copy_from_slice.new.self in
    let held : part ≡ take (min (512 - p.len) (length ys)) ys = c.copy_from_slice.ensures.after ∙ ap (λ (n : ℕ). take n ys) (omega arith) in
    let many : length part ≡ min (min (512 - p.len) (length ys)) (length ys) = ap length held ∙ length-take _ ys in
    let e : p.len + c.min.result ≡ p.len + length part = omega arith in
    take-put_mid p.len (p.len + c.min.result - p.len) p.bytes part (p.len + c.min.result) e (omega arith)
    ∙ ap (λ (zs : List ℕ). take p.len p.bytes ++ zs) held ∙ put_behind 512 p.len p.bytes ys (omega arith) (omega arith)
