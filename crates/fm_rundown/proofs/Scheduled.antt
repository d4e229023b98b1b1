-- The laws over schedules.
use Rattle.fm_rundown.proofs.Words.{cases_eq, cond_both, length-map, some, get_elem?, at_map, VolumeView, SeatView, most_volumes, volume_of}
use Rattle.fm_rundown.proofs.Words.{changed, is_closing_word, gained, tried, saw_closing, saw_drained, took_look, most_passes}
use Rattle.fm_rundown.proofs.Words.{is_seen_drained, NobodyHolds, GateState, IsKept, column}
use Rattle.std.proofs.Common.{◌≡◌, ◌<◌, ◌∷◌, ◌==◌, ℕ, true, [], cond, set, nat_lt, slice_index, refl, ap, sym, ◌∙◌, arith, subst, inl, inr}
use Rattle.fm_rundown.specs.Schedules.{Call, enter, undo, leave, close, look, kind_of, Step, after_step}
use Rattle.fm_rundown.specs.Laws.{RuleIsKept, NoWordWraps, DrainedIsFinal}
use Rattle.fm_rundown.proofs.Lists.{all_found, any_kept}
use Rattle.fm_rundown.proofs.Counts.{Keeps, enters_keeps, undoes_keeps, leaves_keeps, closes_keeps, looks_keeps, closing_bit}
use Rattle.fm_rundown.proofs.Counts.{closed_where_seen, word_bound}
use Rattle.fm_rundown.proofs.Kept.{IsLong, kept_after, column_here, column_other}

keeps_of : (call : Call) → Keeps (kind_of call)
keeps_of enter = enters_keeps
keeps_of undo = undoes_keeps
keeps_of leave = leaves_keeps
keeps_of close = closes_keeps
keeps_of look = looks_keeps

-- the rule after one step
kept_by_step : (seats : ℕ) (s : GateState) (step : Step) (seat : SeatView) → IsKept seats s → get_elem? s.views step.seat ≡ some seat
    → step.volume < most_volumes
    → (kind_of step.call).may (volume_of step.volume seat) → IsKept seats (after_step step seat s)
kept_by_step seats s step seat rule at within may =
    kept_after (kind_of step.call) (keeps_of step.call) seats s step.seat step.volume seat [] rule at within may

pub rule_is_kept : RuleIsKept
rule_is_kept seats s t [] rule leads = subst (IsKept seats) (sym leads) rule
rule_is_kept seats s t (step ∷ steps) rule leads =
    rule_is_kept seats (after_step step leads.0 s) t steps (kept_by_step seats s step leads.0 rule leads.1 leads.2 leads.3) leads.4

pub no_word_wraps : NoWordWraps
no_word_wraps seats v s rule within =
    word_bound (slice_index s.words v) (column v s.views)
    (omega (arith, length-map s.views (volume_of v), rule.all_seats, rule.few)) (rule.counted v within)

-- ---- what was seen drained stays seen ----

stays_seen : (call : Call) (found : ℕ) (p : VolumeView) → p.is_drained ≡ true → ((kind_of call).seen found p).is_drained ≡ true
stays_seen enter found p seen =
    let Seen : VolumeView → Type 0 = λ q. q.is_drained ≡ true in
    cond_both (is_closing_word found) (saw_closing (tried p)) (cond (nat_lt p.held most_passes) (gained p) (tried p)) Seen (λ _. seen)
    (λ _. cond_both (nat_lt p.held most_passes) (gained p) (tried p) Seen (λ _. seen) (λ _. seen))
stays_seen undo found p seen = seen
stays_seen leave found p seen = seen
stays_seen close found p seen = seen
stays_seen look found p seen =
    let Seen : VolumeView → Type 0 = λ q. q.is_drained ≡ true in
    let drained = saw_drained (took_look p) in
    let closing = saw_closing (took_look p) in
    cond_both (is_closing_word found) (cond (found == 1) drained closing) (took_look p) Seen
    (λ _. cond_both (found == 1) drained closing Seen (λ _. refl) (λ _. seen)) (λ _. seen)

seen_after_step : (seats v : ℕ) (s : GateState) (step : Step) (seat : SeatView) → IsKept seats s → get_elem? s.views step.seat ≡ some seat
    → step.volume < most_volumes
    → is_seen_drained (column v s.views) ≡ true → is_seen_drained (column v (after_step step seat s).views) ≡ true
seen_after_step seats v s step seat rule at within seen =
    let found = slice_index s.words step.volume in
    let change = (kind_of step.call).seen found in
    let long = all_found IsLong s.views step.seat seat rule.volumes at in
    let after = set s.views step.seat (changed step.volume change seat) in
    let After : ℕ → Type 0 = λ u. is_seen_drained (column u s.views) ≡ true → is_seen_drained (column u after) ≡ true in
    elim (cases_eq v step.volume) [
      | inl is ↦ subst After (sym is) (λ here.
          ap is_seen_drained (column_here step.volume s.views step.seat seat change (omega (arith, long, within)))
          ∙ any_kept (λ (p : VolumeView). p.is_drained) (column step.volume s.views) step.seat
          (volume_of step.volume seat) (change (volume_of step.volume seat))
          (at_map (volume_of step.volume) s.views step.seat seat at) (stays_seen step.call found (volume_of step.volume seat)) here) seen
      | inr other ↦ ap is_seen_drained (column_other v step.volume s.views step.seat seat change at other) ∙ seen
    ]

pub drained_is_final : DrainedIsFinal
drained_is_final seats v s t [] rule within seen leads =
    let counted = rule.counted v within in
    let Final : GateState → Type 0 = λ u. NobodyHolds (column v u.views) × (is_closing_word (slice_index u.words v) ≡ true) in
    subst Final (sym leads) (
      counted.2 seen,
      closing_bit (slice_index s.words v) (column v s.views) counted ∙ closed_where_seen (slice_index s.words v) (column v s.views) counted seen,
    )
drained_is_final seats v s t (step ∷ steps) rule within seen leads =
    drained_is_final seats v (after_step step leads.0 s) t steps (kept_by_step seats s step leads.0 rule leads.1 leads.2 leads.3) within
    (seen_after_step seats v s step leads.0 rule leads.1 leads.2 seen) leads.4
