-- Tracing answers exactly the events of sound chains.
use Rattle.std.proofs.Common.{◌≡◌, ℕ, ◌<◌, ◌≤◌, ◌||◌, eqb, ltb, leb, ◌⊎◌, List, length, Some, None, Ok, Err, Option, Result, refl, ◌∙◌, subst, inl, inr, arith}
use Rattle.std.proofs.lemmas.Bool.{cond_both, or_cases, or_parts, or_right, eqb-true, eqb-false, ne_eqb, leb-true, leb-false, le-leb, lt-leb, ltb-true, ltb-false, lt-ltb, le-ltb}
use Rattle.exploration.specs.declared.node.Visit.{Visit}
use Rattle.exploration.specs.declared.trace_refusal.TraceRefusal.{TraceRefusal}
use Rattle.exploration.specs.declared.trace_refusal.TraceRefusal.TheVariants.{NoSuchVisit, BrokenChain, ListTooShort}
use Rattle.exploration.specs.Traces.{chained, unbroken, traced, Chain, Traced, Tracing}
use Rattle.exploration.proofs.Lists.{none_some}
use Rattle.exploration.proofs.Chains.{chain_within, chain_fewer, chain_computes, computes_chain}

-- where the visit is one of them, tracing is the chain's events
pub traced_chained : (vs : List Visit) (k room : ℕ) → 1 ≤ k → k ≤ length vs → traced vs k room ≡ unbroken room (chained vs k)
unfolding traced
traced_chained vs k room a b = rw (ne_eqb k 0 (λ z. omega arith), le-ltb (length vs) k b)

-- where it is none of them, it is refused
pub traced_lacking : (vs : List Visit) (k room : ℕ) → (k ≡ 0) ⊎ (length vs < k) → traced vs k room ≡ Err NoSuchVisit
unfolding traced
traced_lacking vs k room (inl z) = rw z
traced_lacking vs k room (inr l) = rw (or_right (eqb k 0) (ltb (length vs) k) (lt-ltb (length vs) k l))

-- a sound chain's events are traced
pub chain_traced : {vs : List Visit} {k : ℕ} {es : List ℕ} → Chain vs k es → Traced vs k es
chain_traced {vs} {k} c room = let h = chain_within c in traced_chained vs k room h.0 h.1 ∙ rw (chain_computes c)

-- what each answer says
abbrev pub Says : List Visit → ℕ → ℕ → Result (List ℕ) TraceRefusal → Type 0
Says vs k room (Ok es) = Chain vs k es × (length es ≤ room)
Says vs k room (Err NoSuchVisit) = (k ≡ 0) ⊎ (length vs < k)
Says vs k room (Err BrokenChain) = (1 ≤ k) × (k ≤ length vs) × ((es : List ℕ) → Chain vs k es → ⊥)
Says vs k room (Err ListTooShort) = (es : List ℕ) × Chain vs k es × (room < length es)

pub says : (vs : List Visit) (k room : ℕ) → Says vs k room (traced vs k room)
unfolding traced
says vs k room =
    cond_both (eqb k 0 || ltb (length vs) k) (Err NoSuchVisit) (unbroken room (chained vs k)) (Says vs k room)
    (λ h. elim (or_cases (eqb k 0) (ltb (length vs) k) h) [ inl z ↦ inl (eqb-true k 0 z) | inr l ↦ inr (ltb-true (length vs) k l) ])
    (λ h. let a = or_parts (eqb k 0) (ltb (length vs) k) h in let z = eqb-false k 0 a.0 in go (omega arith) (ltb-false (length vs) k a.1) (chained vs k) refl)
  where
    go : 1 ≤ k → k ≤ length vs → (o : Option (List ℕ)) → chained vs k ≡ o → Says vs k room (unbroken room o)
    go a b None h = (a, b, λ es c. none_some (chained vs k) es h (chain_computes c))
    go a b (Some es) h =
        let c = computes_chain vs k k es h in
        cond_both (leb (length es) room) (Ok es) (Err ListTooShort) (Says vs k room) (λ l. (c, leb-true (length es) room l)) (λ l. (es, c, leb-false (length es) room l))

traced_broken : (vs : List Visit) (k room : ℕ) → 1 ≤ k → k ≤ length vs → ((es : List ℕ) → Chain vs k es → ⊥) → traced vs k room ≡ Err BrokenChain
traced_broken vs k room a b n = traced_chained vs k room a b ∙ go (chained vs k) refl
  where
    go : (o : Option (List ℕ)) → chained vs k ≡ o → unbroken room o ≡ Err BrokenChain
    go None h = refl
    go (Some es) h = absurd (n es (computes_chain vs k k es h))

pub tracing : (vs : List Visit) (k room : ℕ) → Tracing vs k room
tracing vs k room = record {
  answers = λ es e. so e;
  answered = λ es c l. chain_traced c room ∙ rw (le-leb (length es) room l);
  lacks = so;
  lacking = traced_lacking vs k room;
  breaks = so;
  broken = traced_broken vs k room;
  shortens = so;
  short = λ es c l. chain_traced c room ∙ rw (lt-leb (length es) room l);
  fewer = λ es c. chain_fewer c;
}
  where
    so : {r : Result (List ℕ) TraceRefusal} → traced vs k room ≡ r → Says vs k room r
    so e = subst (Says vs k room) e (says vs k room)
