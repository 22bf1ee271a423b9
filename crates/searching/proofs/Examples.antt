-- The worked examples, by computing.
use Rattle.std.proofs.Common.{◌≡◌, ℕ, Bool, true, false, not, [], ◌∷◌, Ok, sym, refl, ap, ◌∙◌, subst}
use Rattle.plex.specs.Sets.{one_if, card, all_below, rising}
use Rattle.plex.specs.Least.{least}
use Rattle.plex.specs.Meaning.{Meaning}
use Rattle.pruning.specs.Pruned.{ends_needed, shared_needed, agreements, sum_to}
use Rattle.pruning.specs.Rounds.{rounds}
use Rattle.pruning.proofs.Laws.{co_pruning}
use Rattle.ceiling.specs.Rules.{Number}
use Rattle.ceiling.specs.Formulas.{by_degree, by_pair}
use Rattle.searching.specs.States.{State, held_size, ceiling, steps_for, steps_left, settled}
use Rattle.searching.specs.Calls.{Call, Step, Run, Offer, Answer, run_limit, Does}
use Rattle.searching.specs.Computed.{peel, trim, next, run, make, answer, leaves}
use Rattle.searching.specs.Examples.{pentagon, eight, eight_sparse, Ends, three_apart, no_marks, both_rules, Looks, Gets, Leaves, PentagonTwo, PentagonOne, WorkedExamples}
use Rattle.searching.proofs.Making.{made_sound}
use Rattle.plex.proofs.Within.{two_way, among}
use Rattle.searching.proofs.Exactness.{computed_only}
use Rattle.searching.proofs.Made.{make_is, make_only}

abbrev two : State
two = make 5 2 pentagon.agrees both_rules

held_two : rising 5 two.held ≡ 2 ∷ 3 ∷ 4 ∷ []
unfolding peel least card rising
held_two = refl

left_two : steps_left two ≡ 63
unfolding peel least card rounds steps_for
left_two = refl

one_two : steps_left (next two) ≡ 62
unfolding peel least card rounds steps_for next trim all_below by_degree by_pair
one_two = refl

held_later : rising (run 5 two).after.marks (run 5 two).after.held ≡ 2 ∷ 3 ∷ 4 ∷ []
unfolding peel least card rounds rising next run trim all_below by_degree by_pair
held_later = refl

high_two : ceiling two ≡ 4
unfolding peel least card rounds
high_two = refl

high_later : ceiling (run 5 two).after ≡ 3
unfolding peel least card rounds next run trim all_below by_degree by_pair
high_later = refl

open_two : settled two ≡ false
unfolding peel least card
open_two = refl

count_four : (run 4 two).count ≡ 4
unfolding peel least card rounds next run trim all_below by_degree by_pair
count_four = refl

open_four : settled (run 4 two).after ≡ false
unfolding peel least card rounds next run trim all_below by_degree by_pair
open_four = refl

count_five : (run 5 two).count ≡ 5
unfolding peel least card rounds next run trim all_below by_degree by_pair
count_five = refl

done_five : settled (run 5 two).after ≡ true
unfolding peel least card rounds next run trim all_below by_degree by_pair
done_five = refl

refuses_small : Gets (answer two (Offer (0 ∷ 1 ∷ 2 ∷ []))) 55
unfolding peel least card all_below
refuses_small = refl

refuses_loose : Gets (answer two (Offer (0 ∷ 2 ∷ 3 ∷ []))) 54
unfolding peel least card all_below
refuses_loose = refl

abbrev dense : State
dense = make 8 2 eight.agrees both_rules

count_dense : (run run_limit dense).count ≡ 9
unfolding peel least card rounds next run trim all_below by_degree by_pair
count_dense = refl

looks_dense : Looks (run run_limit dense).after (0 ∷ 1 ∷ 2 ∷ 4 ∷ 7 ∷ []) 5 true
unfolding peel least card rounds rising next run trim all_below by_degree by_pair
looks_dense = record { holds = refl; high_is = refl; done_is = refl }

abbrev sparse : State
sparse = make 8 3 eight_sparse.agrees both_rules

count_sparse : (run run_limit sparse).count ≡ 11
unfolding peel least card rounds next run trim all_below by_degree by_pair
count_sparse = refl

looks_sparse : Looks (run run_limit sparse).after (0 ∷ 1 ∷ 2 ∷ 3 ∷ []) 4 true
unfolding peel least card rounds rising next run trim all_below by_degree by_pair
looks_sparse = record { holds = refl; high_is = refl; done_is = refl }

abbrev one : State
one = make 5 1 pentagon.agrees both_rules

held_one : rising 5 one.held ≡ 3 ∷ 4 ∷ []
unfolding peel least card rising
held_one = refl

high_one : ceiling one ≡ 2
unfolding peel least card rounds
high_one = refl

open_one : settled one ≡ false
unfolding peel least card
open_one = refl

held_then : rising (next one).marks (next one).held ≡ 3 ∷ 4 ∷ []
unfolding peel least card rounds rising next trim all_below by_degree by_pair
held_then = refl

high_then : ceiling (next one) ≡ 2
unfolding peel least card rounds next trim all_below by_degree by_pair
high_then = refl

done_then : settled (next one) ≡ true
unfolding peel least card rounds next trim all_below by_degree by_pair
done_then = refl

-- what a call does in a search just made is what was computed
module _ (m : Meaning) (k : ℕ) where
  abbrev fresh : State
  fresh = make m.marks k m.agrees both_rules

  told : (c : Call) (a : Answer c) (t : State) → Does fresh c a t → (a ≡ answer fresh c) × (t ≡ leaves fresh c)
  told = computed_only fresh (made_sound m k both_rules fresh (make_is m k both_rules)).formed

pentagon_two_is : PentagonTwo two
pentagon_two_is = record {
  made = record { holds = held_two; high_is = high_two; done_is = open_two };
  left = left_two;
  one_step = λ a t d.
      let e = told pentagon 2 Step a t d in
      (e.0 ∙ ap (λ x. answer_at x) open_two, ap steps_left e.1 ∙ one_two);
  four = λ a t d.
      let e = told pentagon 2 (Run 4) a t d in
      (e.0 ∙ ap Ok count_four, ap settled e.1 ∙ open_four);
  five = λ a t d.
      let e = told pentagon 2 (Run 5) a t d in
      (e.0 ∙ ap Ok count_five, subst (λ x. Looks x (2 ∷ 3 ∷ 4 ∷ []) 3 true) (sym e.1) later);
  not_larger = λ a t d. subst (λ x. Gets x 55) (sym (told pentagon 2 (Offer (0 ∷ 1 ∷ 2 ∷ [])) a t d).0) refuses_small;
  not_plex = λ a t d. subst (λ x. Gets x 54) (sym (told pentagon 2 (Offer (0 ∷ 2 ∷ 3 ∷ [])) a t d).0) refuses_loose;
}
  where
    answer_at : Bool → ℕ
    answer_at x = one_if (not x)

    later : Looks (run 5 two).after (2 ∷ 3 ∷ 4 ∷ []) 3 true
    later = record { holds = held_later; high_is = high_later; done_is = done_five }

pentagon_one_is : PentagonOne one
pentagon_one_is = record {
  made = record { holds = held_one; high_is = high_one; done_is = open_one };
  one_step = λ a t d.
      let e = told pentagon 1 Step a t d in
      (e.0 ∙ ap (λ x. one_if (not x)) open_one, subst (λ x. Looks x (3 ∷ 4 ∷ []) 2 true) (sym e.1) then);
}
  where
    then : Looks (next one) (3 ∷ 4 ∷ []) 2 true
    then = record { holds = held_then; high_is = high_then; done_is = done_then }

dense_ends : Ends dense 9 (0 ∷ 1 ∷ 2 ∷ 4 ∷ 7 ∷ [])
dense_ends a t d =
    let e = told eight 2 (Run run_limit) a t d in
    (e.0 ∙ ap Ok count_dense, subst (λ x. Looks x (0 ∷ 1 ∷ 2 ∷ 4 ∷ 7 ∷ []) 5 true) (sym e.1) looks_dense)

sparse_ends : Ends sparse 11 (0 ∷ 1 ∷ 2 ∷ 3 ∷ [])
sparse_ends a t d =
    let e = told eight_sparse 3 (Run run_limit) a t d in
    (e.0 ∙ ap Ok count_sparse, subst (λ x. Looks x (0 ∷ 1 ∷ 2 ∷ 3 ∷ []) 4 true) (sym e.1) looks_sparse)

leaves_by : (k f x : ℕ) → agreements 5 (rounds 25 5 (ends_needed k f) (shared_needed k f) pentagon.agrees) ≡ x → Leaves k f x
leaves_by k f x e g l =
    ap (agreements 5) (co_pruning.unique 5 (ends_needed k f) (shared_needed k f) pentagon.agrees g _ l
    (co_pruning.by_rounds 5 (ends_needed k f) (shared_needed k f) pentagon.agrees (among pentagon) (two_way pentagon))) ∙ e

left_three : agreements 5 (rounds 25 5 (ends_needed 2 3) (shared_needed 2 3) pentagon.agrees) ≡ 5
unfolding card rounds sum_to
left_three = refl

left_four : agreements 5 (rounds 25 5 (ends_needed 2 4) (shared_needed 2 4) pentagon.agrees) ≡ 0
unfolding card rounds sum_to
left_four = refl

left_one : agreements 5 (rounds 25 5 (ends_needed 1 2) (shared_needed 1 2) pentagon.agrees) ≡ 0
unfolding card rounds sum_to
left_one = refl

apart_two_is : Looks (make 3 2 three_apart.agrees both_rules) (1 ∷ 2 ∷ []) 2 true
unfolding peel least card rising
apart_two_is = record { holds = refl; high_is = refl; done_is = refl }

apart_three_is : Looks (make 3 3 three_apart.agrees both_rules) (0 ∷ 1 ∷ 2 ∷ []) 3 true
unfolding peel least card rising
apart_three_is = record { holds = refl; high_is = refl; done_is = refl }

no_mark_is : (k : ℕ) (rule : Number) → (held_size (make 0 k no_marks.agrees rule) ≡ 0) × Looks (make 0 k no_marks.agrees rule) [] 0 true
unfolding peel least card rising
no_mark_is k rule = (refl, record { holds = refl; high_is = refl; done_is = refl })

pub worked_examples_lem : WorkedExamples
worked_examples_lem = record {
  pentagon_two = λ s w. subst PentagonTwo (sym (make_only pentagon 2 both_rules s w)) pentagon_two_is;
  pentagon_one = λ s w. subst PentagonOne (sym (make_only pentagon 1 both_rules s w)) pentagon_one_is;
  eight_two = λ s w. subst (λ x. Ends x 9 (0 ∷ 1 ∷ 2 ∷ 4 ∷ 7 ∷ [])) (sym (make_only eight 2 both_rules s w)) dense_ends;
  eight_three = λ s w. subst (λ x. Ends x 11 (0 ∷ 1 ∷ 2 ∷ 3 ∷ [])) (sym (make_only eight_sparse 3 both_rules s w)) sparse_ends;
  floor_three = leaves_by 2 3 5 left_three;
  floor_four = leaves_by 2 4 0 left_four;
  floor_two = leaves_by 1 2 0 left_one;
  apart_two = λ s w. subst (λ x. Looks x (1 ∷ 2 ∷ []) 2 true) (sym (make_only three_apart 2 both_rules s w)) apart_two_is;
  apart_three = λ s w. subst (λ x. Looks x (0 ∷ 1 ∷ 2 ∷ []) 3 true) (sym (make_only three_apart 3 both_rules s w)) apart_three_is;
  no_mark = λ k rule s w. subst (λ x. (held_size x ≡ 0) × Looks x [] 0 true) (sym (make_only no_marks k rule s w)) (no_mark_is k rule);
  largest_count = refl;
  largest_budget = refl;
  tolerance = (refl, refl);
}
