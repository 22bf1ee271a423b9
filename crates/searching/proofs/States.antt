-- Two searches that are alike in every part are the same.
use Rattle.std.proofs.Common.{◌≡◌}
use Rattle.searching.specs.States.{State}

pub state_same : (s t : State) → s.marks ≡ t.marks → s.k ≡ t.k → s.sheet ≡ t.sheet → s.table ≡ t.table → s.rule ≡ t.rule →
    s.top ≡ t.top → s.held ≡ t.held → s.branches ≡ t.branches → s.taken ≡ t.taken → s ≡ t
state_same s t a b c d e f g h i = λ x. record {
  marks = a x;
  k = b x;
  sheet = c x;
  table = d x;
  rule = e x;
  top = f x;
  held = g x;
  branches = h x;
  taken = i x;
}
