use Rattle.std.proofs.Common.{◌≡◌, ℕ, ◌≤◌, List, length, take, drop, None, Some, Ok, Err, Option, Result, sym, refl, ap, ◌∙◌, subst, inl, inr, ⊎_elim, arith}
use Rattle.std.specs.Option.{ok_or}
use Rattle.std.proofs.lemmas.Result.{err_from_is_err_and}
use Rattle.exploration.specs.declared.node.Visit.{Visit}
use Rattle.exploration.specs.declared.trace_refusal.TraceRefusal.{TraceRefusal}
use Rattle.exploration.specs.declared.trace_refusal.TraceRefusal.TheVariants.{BrokenChain}
use Rattle.exploration.specs.Traces.{Chain, traced}
use Rattle.exploration.proofs.Tracings.{traced_lacking}
use Rattle.tracing.specs.Told.{counted, over_front, Justified}
use Rattle.tracing.proofs.Traces.{traced_broken, traced_short, traced_told, told, told_chained, told_long, tells_chain, justified, not_both, same_count}
use Rattle.tracing.proofs.tracing.trace.Goals as goal

-- a refusal is the definition's, and leaves the list
refused : (vs : List Visit) (k : ℕ) (list : List ℕ) (r : TraceRefusal) → traced vs k (length list) ≡ Err r → record {
  answers : ◌≡◌ {A = Result ℕ TraceRefusal} (Err r) (counted (traced vs k (length list)));
  leaves : list ≡ over_front (traced vs k (length list)) list;
  tells_chain : (count : ℕ) → ◌≡◌ {A = Result ℕ TraceRefusal} (Err r) (Ok count) → (count ≤ length list) × Chain vs k (take count list) × (drop count list ≡ drop count list);
  justified : Justified vs k (length list) (Err r);
  refusal_leaves : (refusal : TraceRefusal) → ◌≡◌ {A = Result ℕ TraceRefusal} (Err r) (Err refusal) → list ≡ list;
}
refused vs k list r is = record {
  answers = sym (ap counted is);
  leaves = sym (ap (λ t. over_front t list) is);
  tells_chain = λ count q. not_both count _ (sym q);
  justified = justified vs k (length list) _ (sym (ap counted is));
  refusal_leaves = λ _ _. refl;
}

broken : (o : Option ℕ) (e : TraceRefusal) → Err e ≡ ok_or o BrokenChain → (None ≡ o) × (e ≡ BrokenChain)
broken None e h = (refl, cc)
broken (Some n) e h = not_both n e (sym h)

pub returns-then-number-eq0 : goal.returns-then-number-eq0
returns-then-number-eq0 c =
    refused c.args.visits.now c.args.number c.args.list.now _ (traced_lacking c.args.visits.now c.args.number (length c.args.list.now) (⊎_elim (λ h. inl h) (λ h. inr h.1) c.then-number-eq0.either))

pub returns-in_err-count : goal.returns-in_err-count
returns-in_err-count c =
    let p = err_from_is_err_and c.from_residual.result c.from_residual.ensures.1 in
    let b = broken c.event_count.result c.in_err-count.field-0.0 c.in_err-count.ensures.value in
    rw (p.1, p.2, b.1) (refused c.args.visits.now c.args.number c.args.list.now BrokenChain (traced_broken c.args.visits.now c.args.number (length c.args.list.now) (omega arith) (omega arith) (b.0 ∙ c.event_count.ensures)))

pub returns-then-count-list : goal.returns-then-count-list
returns-then-count-list c =
    refused c.args.visits.now c.args.number c.args.list.now _
    (traced_short c.args.visits.now c.args.number (length c.args.list.now) (omega arith) (omega arith) c.in_ok-count.count (sym c.in_ok-count.ensures.ok_part ∙ c.event_count.ensures) (omega arith))

pub returns : goal.returns
returns c =
    let vs = c.args.visits.now in
    let k = c.args.number in
    let room = length c.args.list.now in
    let low : 1 ≤ k = omega arith in
    let high : k ≤ length vs = omega arith in
    let n = c.in_ok-count.count in
    let counts = sym c.in_ok-count.ensures.ok_part ∙ c.event_count.ensures in
    let fits : n ≤ room = omega arith in
    let is = traced_told vs k room low high n counts fits in
    let writes = c.write_events.ensures (told vs k room low high n counts) (told_chained vs k room low high n counts) in
    let answers = ap Ok (sym (told_long vs k room low high n counts)) ∙ sym (ap counted is) in
    record {
      answers = answers;
      justified = justified vs k room _ answers;
      leaves = writes ∙ sym (ap (λ t. over_front t c.args.list.now) is);
      tells_chain = λ count q.
          let same : n ≡ count = same_count n count q in
          let tells = tells_chain vs k room low high n counts c.args.list.now c.write_events.new.list writes in
          subst (λ m. (m ≤ room) × Chain vs k (take m c.write_events.new.list) × (drop m c.write_events.new.list ≡ drop m c.args.list.now)) same (fits, tells.0, tells.1);
      refusal_leaves = λ refusal q. not_both n refusal q;
    }
