-- `presence::states::services_next` meets its contract. Assumes nothing.
use mathlib.Core.Path.{◌≡◌, ◌∙◌}
use mathlib.Core.Bool.{◌||◌}
use Rattle.presence.specs.Log.{days_of}
use Rattle.presence.specs.declared.Service.TheVariants.{DataService, CallService, SmsService}
use Rattle.presence.specs.Service.{next_state, services_after}
use Rattle.presence.proofs.Totals.{next_asked, asked_first, asked_second, asked_third}
use Rattle.presence.proofs.states.services_next.Goals as goal

pub returns : goal.returns
unfolding services_after
returns c =
    let a = c.args in
    let ds = days_of a.log.now in
    let l = c.asks_long in
    let l2 = c.asks_long-2 in
    let l3 = c.asks_long-3 in
    let k = c.asks_short in
    let k2 = c.asks_short-2 in
    let k3 = c.asks_short-3 in
    let asked-l = l.result || l2.result || l3.result in
    let asked-k = k.result || k2.result || k3.result in
    let i : c.step.result ≡ next_state DataService a.n ds a.s.internet =
    c.step.ensures ∙ rw (c.prevalent_where-short.ensures, c.prevalent_where-long.ensures)
    (next_asked DataService a.n ds a.s.internet asked-l asked-k (λ e. asked_first l.result l2.result l3.result (l.ensures ∙ e)) (λ e. asked_first k.result k2.result k3.result (k.ensures ∙ e))) in
    let j : c.step-2.result ≡ next_state CallService a.n ds a.s.calls =
    c.step-2.ensures ∙ rw (c.prevalent_where-short.ensures, c.prevalent_where-long.ensures)
    (next_asked CallService a.n ds a.s.calls asked-l asked-k (λ e. asked_second l.result l2.result l3.result (l2.ensures ∙ e)) (λ e. asked_second k.result k2.result k3.result (k2.ensures ∙ e))) in
    let m : c.step-3.result ≡ next_state SmsService a.n ds a.s.messages =
    c.step-3.ensures ∙ rw (c.prevalent_where-short.ensures, c.prevalent_where-long.ensures)
    (next_asked SmsService a.n ds a.s.messages asked-l asked-k (λ e. asked_third l.result l2.result l3.result (l3.ensures ∙ e)) (λ e. asked_third k.result k2.result k3.result (k3.ensures ∙ e))) in
    simp (i, j, m)
