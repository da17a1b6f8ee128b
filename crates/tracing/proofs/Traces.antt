-- What tracing answers, by the number of events that the chain has.
use Rattle.std.proofs.Common.{◌≡◌, ℕ, ◌<◌, ◌≤◌, List, length, take, drop, Some, None, Ok, Err, Option, Result, sym, refl, ap, ◌∙◌, subst, arith}
use Rattle.std.specs.Option.{option_map}
use Rattle.std.proofs.lemmas.List.{take_at, drop_at}
use Rattle.std.proofs.lemmas.Bool.{cond-true, cond-false, le-leb, lt-leb}
use Rattle.exploration.specs.declared.node.Visit.{Visit}
use Rattle.exploration.specs.declared.trace_refusal.TraceRefusal.{TraceRefusal}
use Rattle.exploration.specs.declared.trace_refusal.TraceRefusal.TheVariants.{NoSuchVisit, BrokenChain, ListTooShort}
use Rattle.exploration.specs.Traces.{chained, within, unbroken, traced, Chain}
use Rattle.exploration.proofs.Chains.{computes_chain}
use Rattle.exploration.proofs.Tracings.{traced_chained, tracing}
use Rattle.tracing.specs.Told.{counted, over_front, Justified}

pub not_both : {X E Y : Type 0} (x : X) (e : E) → ◌≡◌ {A = Result X E} (Ok x) (Err e) → Y
not_both x e q = absurd (let z : ◌≡◌ {A = ℕ} 0 1 = cc in omega arith)

pub same_count : {E : Type 0} (m n : ℕ) → ◌≡◌ {A = Result ℕ E} (Ok m) (Ok n) → m ≡ n
same_count m n q = cc

-- a refusal is the definition's own
counted_err : (t : Result (List ℕ) TraceRefusal) (r : TraceRefusal) → counted t ≡ Err r → t ≡ Err r
counted_err (Ok es) r q = not_both (length es) r q
counted_err (Err s) r q = let same : s ≡ r = cc in ap (λ u. Err u) same

pub justified : (vs : List Visit) (k room : ℕ) (r : Result ℕ TraceRefusal) → r ≡ counted (traced vs k room) → Justified vs k room r
justified vs k room r is =
    let T = tracing vs k room in
    record {
      told = λ es chain fits. is ∙ ap counted (T.answered es chain fits);
      no_such_visit = λ q. T.lacks (counted_err (traced vs k room) NoSuchVisit (sym is ∙ q));
      broken_chain = λ q. (T.breaks (counted_err (traced vs k room) BrokenChain (sym is ∙ q))).2;
      list_too_short = λ q. T.shortens (counted_err (traced vs k room) ListTooShort (sym is ∙ q));
    }

no_events : (o : Option (List ℕ)) → None ≡ option_map length o → o ≡ None
no_events None h = refl
no_events (Some es) h = let z : ◌≡◌ {A = ℕ} 0 1 = cc in absurd (omega arith)

some_events : (o : Option (List ℕ)) (n : ℕ) → Some n ≡ option_map length o → (es : List ℕ) × (o ≡ Some es) × (length es ≡ n)
some_events None n h = let z : ◌≡◌ {A = ℕ} 0 1 = cc in absurd (omega arith)
some_events (Some es) n h = (es, refl, cc)

module _ (vs : List Visit) (k room : ℕ) (low : 1 ≤ k) (high : k ≤ length vs) where
  pub traced_broken : None ≡ option_map length (chained vs k) → traced vs k room ≡ Err BrokenChain
  traced_broken h = traced_chained vs k room low high ∙ ap (unbroken room) (no_events (chained vs k) h)

  module _ (n : ℕ) (h : Some n ≡ option_map length (chained vs k)) where
    pub told : List ℕ
    told = (some_events (chained vs k) n h).0

    pub told_chained : chained vs k ≡ Some told
    unfolding told
    told_chained = (some_events (chained vs k) n h).1

    pub told_long : length told ≡ n
    unfolding told
    told_long = (some_events (chained vs k) n h).2

    traced_within : traced vs k room ≡ within room told
    traced_within = traced_chained vs k room low high ∙ ap (unbroken room) told_chained

    pub traced_short : room < n → traced vs k room ≡ Err ListTooShort
    traced_short short = traced_within ∙ cond-false _ _ _ (lt-leb (length told) room (omega (arith, told_long)))

    pub traced_told : n ≤ room → traced vs k room ≡ Ok told
    traced_told fits = traced_within ∙ cond-true _ _ _ (le-leb (length told) room (omega (arith, told_long)))

    -- the list that has the events at its front tells the chain
    pub tells_chain : (list after : List ℕ) → after ≡ over_front (Ok told) list → Chain vs k (take n after) × (drop n after ≡ drop n list)
    tells_chain list after is = (
      subst (Chain vs k) (sym (ap (take n) is ∙ take_at told (drop (length told) list) n told_long)) (computes_chain vs k k told told_chained),
      ap (drop n) is ∙ drop_at told (drop (length told) list) n told_long ∙ ap (λ m. drop m list) told_long,
    )
