use Rattle.std.proofs.Common.{◌≡◌, ◌+◌, ◌-◌, get_or, set, sym, refl, ap, ◌∙◌, subst, ap₂, arith, rules}
use Rattle.plex.specs.Sets.{only, ◌∪◌, ◌∖◌, Within}
use Rattle.plex.specs.Words.{holds}
use Rattle.marks.specs.Members.{members}
use Rattle.branch.specs.declared.branches.Branch.{Branch}
use Rattle.search.specs.Stacks.{no_branch, chosen_at}
use Rattle.search.specs.View.{view}
use Rattle.search.proofs.View.{formed}
use Rattle.search.proofs.Telling.{few_open, held_within}
use Rattle.search.proofs.Stepping.{passes}
use Rattle.search.proofs.Steps.{Trims, read, step_closes, group_within, step_takes, mark_small, room, step_splits}
use Rattle.search.proofs.searches.Search.take_step.Goals as goal

pub offset_bounds-self-at : goal.offset_bounds-self-at
offset_bounds-self-at g c = omega (arith, few_open c.args.self.now, c.requires)

pub bounds-self-at : goal.bounds-self-at
bounds-self-at g c = omega (arith, few_open c.args.self.now, c.requires)

pub offset_bounds-self-at-2 : goal.offset_bounds-self-at-2
offset_bounds-self-at-2 g c = omega (arith, few_open c.args.self.now, c.requires)

pub bounds-self-at-2 : goal.bounds-self-at-2
bounds-self-at-2 g c = omega (arith, few_open c.args.self.now, c.requires)

pub invariant_of-self : goal.invariant_of-self
invariant_of-self g c =
    let me = c.args.self.now in
    let number = g.R.CeilingRule.number in
    let h = c.count-held.result in
    let trim = c.trim.new.self in
    let t : Trims me h trim = record { some = c.requires; long = search rules; size = c.count-held.ensures; same = c.trim.ensures.chosen; trimmed = c.trim.ensures.trimmed } in
    let step = step_closes number me h trim t c.in-Closes.ensures c.saturating_add-self.result c.saturating_add-self.ensures in
    let p = passes (view number me) (formed number me) (set me.branches (me.count - 1) trim) (me.count - 1) me.table.rows me.held.set.words c.saturating_add-self.result refl step (held_within me) in
    record {
      alike = me.alike;
      chosens = p.chosens;
      candidates = p.candidates;
      apart = p.apart;
      plex = p.plex;
      ordered = p.ordered;
      inside = p.inside;
    }

pub invariant_of-self-in-Takes : goal.invariant_of-self-in-Takes
invariant_of-self-in-Takes g c =
    let me = c.args.self.now in
    let number = g.R.CeilingRule.number in
    let h = c.count-held.result in
    let trim = c.trim.new.self in
    let t : Trims me h trim = record { some = c.requires; long = search rules; size = c.count-held.ensures; same = c.trim.ensures.chosen; trimmed = c.trim.ensures.trimmed } in
    let group = c.of-self.result.set.words in
    let all : holds group ≡ chosen_at me.branches (me.count - 1) ∪ holds trim.candidates =
    ap members c.of-self.ensures ∙ c.or.ensures
    ∙ ap₂ ◌∪◌ (ap holds (c.from_words-chosen.ensures ∙ ap (λ b. b.chosen) (read number me h trim t) ∙ t.same))
    (ap holds (c.from_words.ensures ∙ ap (λ b. b.candidates) (read number me h trim t))) in
    let step = step_takes number me h trim t c.in-Takes.ensures group all c.saturating_add-self.result c.saturating_add-self.ensures in
    let inside = subst (Within me.sheet.marks) (sym all) (group_within number me h trim t) in
    let p = passes (view number me) (formed number me) (set me.branches (me.count - 1) trim) (me.count - 1) me.table.rows group c.saturating_add-self.result refl step inside in
    record {
      alike = me.alike;
      chosens = p.chosens;
      candidates = p.candidates;
      apart = p.apart;
      plex = p.plex;
      ordered = p.ordered;
      inside = p.inside;
    }

pub offset_bounds-self-at-in-Splits : goal.offset_bounds-self-at-in-Splits
offset_bounds-self-at-in-Splits g c = omega (arith, few_open c.args.self.now, c.requires)

pub bounds-self-at-in-Splits : goal.bounds-self-at-in-Splits
bounds-self-at-in-Splits g c = omega (arith, few_open c.args.self.now, c.requires)

pub offset_bounds-self-at-in-Splits-2 : goal.offset_bounds-self-at-in-Splits-2
offset_bounds-self-at-in-Splits-2 g c = omega (arith, few_open c.args.self.now, c.requires)

pub bounds-self-at-in-Splits-2 : goal.bounds-self-at-in-Splits-2
bounds-self-at-in-Splits-2 g c =
    let me = c.args.self.now in
    let number = g.R.CeilingRule.number in
    let h = c.count-held.result in
    let trim = c.trim.new.self in
    let t : Trims me h trim = record { some = c.requires; long = search rules; size = c.count-held.ensures; same = c.trim.ensures.chosen; trimmed = c.trim.ensures.trimmed } in
    let r = room number me h trim t c.in-Splits.u c.in-Splits.ensures in
    omega (arith, r)

pub overflow_add-self : goal.overflow_add-self
overflow_add-self g c = omega (arith, few_open c.args.self.now, c.requires)

pub invariant_of-self-in-Splits : goal.invariant_of-self-in-Splits
invariant_of-self-in-Splits g c =
    let me = c.args.self.now in
    let number = g.R.CeilingRule.number in
    let h = c.count-held.result in
    let trim = c.trim.new.self in
    let t : Trims me h trim = record { some = c.requires; long = search rules; size = c.count-held.ensures; same = c.trim.ensures.chosen; trimmed = c.trim.ensures.trimmed } in
    let u = c.in-Splits.u in
    let falls = c.in-Splits.ensures in
    let b : Branch = record { chosen = (get_or (set me.branches (me.count - 1) trim) (me.count - 1) no_branch).chosen; candidates = c.words-rest.result } in
    let d : Branch = record { chosen = c.words-chosen.result; candidates = c.words-rest.result } in
    let seen = read number me h trim t in
    let stays : holds b.chosen ≡ chosen_at me.branches (me.count - 1) = ap holds (ap (λ x. x.chosen) seen ∙ t.same) in
    let rest : holds c.words-rest.result ≡ holds trim.candidates ∖ only u =
    ap holds c.words-rest.ensures ∙ c.without.ensures ∙ ap (λ t. t ∖ only u) (ap holds (c.from_words-in-Splits.ensures ∙ ap (λ x. x.candidates) seen)) in
    let joins : holds c.words-chosen.result ≡ chosen_at me.branches (me.count - 1) ∪ only u =
    ap holds c.words-chosen.ensures ∙ c.with.ensures.inside (mark_small number me h trim t u falls)
    ∙ ap (λ t. t ∪ only u) (ap holds (c.from_words-in-Splits-2.ensures ∙ ap (λ x. x.chosen) seen ∙ t.same)) in
    let step = step_splits number me h trim t u falls b d stays rest joins rest c.saturating_add-self.result c.saturating_add-self.ensures in
    let p = passes (view number me) (formed number me) (set (set (set me.branches (me.count - 1) trim) (me.count - 1) b) (me.count - 1 + 1) d) (me.count - 1 + 2) me.table.rows me.held.set.words
    c.saturating_add-self.result refl step (held_within me) in
    record {
      alike = me.alike;
      chosens = p.chosens;
      candidates = p.candidates;
      apart = p.apart;
      plex = p.plex;
      ordered = p.ordered;
      inside = p.inside;
    }

pub returns-in-Closes : goal.returns-in-Closes
returns-in-Closes g c =
    let me = c.args.self.now in
    let number = g.R.CeilingRule.number in
    let h = c.count-held.result in
    let trim = c.trim.new.self in
    let t : Trims me h trim = record { some = c.requires; long = search rules; size = c.count-held.ensures; same = c.trim.ensures.chosen; trimmed = c.trim.ensures.trimmed } in
    let step = step_closes number me h trim t c.in-Closes.ensures c.saturating_add-self.result c.saturating_add-self.ensures in
    step

pub returns-in-Takes : goal.returns-in-Takes
returns-in-Takes g c =
    let me = c.args.self.now in
    let number = g.R.CeilingRule.number in
    let h = c.count-held.result in
    let trim = c.trim.new.self in
    let t : Trims me h trim = record { some = c.requires; long = search rules; size = c.count-held.ensures; same = c.trim.ensures.chosen; trimmed = c.trim.ensures.trimmed } in
    let group = c.of-self.result.set.words in
    let all : holds group ≡ chosen_at me.branches (me.count - 1) ∪ holds trim.candidates =
    ap members c.of-self.ensures ∙ c.or.ensures
    ∙ ap₂ ◌∪◌ (ap holds (c.from_words-chosen.ensures ∙ ap (λ b. b.chosen) (read number me h trim t) ∙ t.same))
    (ap holds (c.from_words.ensures ∙ ap (λ b. b.candidates) (read number me h trim t))) in
    let step = step_takes number me h trim t c.in-Takes.ensures group all c.saturating_add-self.result c.saturating_add-self.ensures in
    step

pub returns-in-Splits : goal.returns-in-Splits
returns-in-Splits g c =
    let me = c.args.self.now in
    let number = g.R.CeilingRule.number in
    let h = c.count-held.result in
    let trim = c.trim.new.self in
    let t : Trims me h trim = record { some = c.requires; long = search rules; size = c.count-held.ensures; same = c.trim.ensures.chosen; trimmed = c.trim.ensures.trimmed } in
    let u = c.in-Splits.u in
    let falls = c.in-Splits.ensures in
    let b : Branch = record { chosen = (get_or (set me.branches (me.count - 1) trim) (me.count - 1) no_branch).chosen; candidates = c.words-rest.result } in
    let d : Branch = record { chosen = c.words-chosen.result; candidates = c.words-rest.result } in
    let seen = read number me h trim t in
    let stays : holds b.chosen ≡ chosen_at me.branches (me.count - 1) = ap holds (ap (λ x. x.chosen) seen ∙ t.same) in
    let rest : holds c.words-rest.result ≡ holds trim.candidates ∖ only u =
    ap holds c.words-rest.ensures ∙ c.without.ensures ∙ ap (λ t. t ∖ only u) (ap holds (c.from_words-in-Splits.ensures ∙ ap (λ x. x.candidates) seen)) in
    let joins : holds c.words-chosen.result ≡ chosen_at me.branches (me.count - 1) ∪ only u =
    ap holds c.words-chosen.ensures ∙ c.with.ensures.inside (mark_small number me h trim t u falls)
    ∙ ap (λ t. t ∪ only u) (ap holds (c.from_words-in-Splits-2.ensures ∙ ap (λ x. x.chosen) seen ∙ t.same)) in
    let step = step_splits number me h trim t u falls b d stays rest joins rest c.saturating_add-self.result c.saturating_add-self.ensures in
    step
