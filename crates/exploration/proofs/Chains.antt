-- Chains of visits: what their definition computes, and that its bound does not matter.
use Rattle.std.proofs.Common.{◌≡◌, ℕ, zero, suc, ◌<◌, ◌≤◌, Bool, true, false, cond, ◌&&◌, eqb, ltb, leb, ◌⊎◌, List, [], ◌∷◌, ◌++◌, length, Some, None, Option, refl, ap, ◌∙◌, inl, inr, arith}
use Rattle.std.proofs.lemmas.List.{length_push}
use Rattle.std.proofs.lemmas.Bool.{and_parts, eqb-true, eqb-false, eq-eqb, ne_eqb, leb-true, le-leb, ltb-true, lt-ltb}
use Rattle.exploration.specs.declared.node.Visit.{Visit}
use Rattle.exploration.specs.Lists.{numbered}
use Rattle.exploration.specs.Traces.{sound, and_then, linked, chain, chained, Chain, starts, follows}
use Rattle.exploration.proofs.Lists.{none_some, numbered_more, numbered_within}

pub chain_within : {vs : List Visit} {k : ℕ} {es : List ℕ} → Chain vs k es → (1 ≤ k) × (k ≤ length vs)
chain_within {vs} (starts {k = k} {v = v} a p e) = numbered_within vs k v a
chain_within {vs} (follows {k = k} {v = v} a p l h c) = numbered_within vs k v a

-- a chain has fewer events than its last visit's number
pub chain_fewer : {vs : List Visit} {k : ℕ} {es : List ℕ} → Chain vs k es → length es < k
chain_fewer {vs} (starts {k = k} {v = v} a p e) = (numbered_within vs k v a).0
chain_fewer {vs} (follows {v = v} {es = es} a p l h c) = omega (arith, length_push es v.event, chain_fewer c)

-- more visits behind do not change a chain
pub chain_more : {vs : List Visit} {k : ℕ} {es : List ℕ} (w : Visit) → Chain vs k es → Chain (vs ++ w ∷ []) k es
chain_more {vs} w (starts {k = k} {v = v} a p e) = starts (numbered_more vs (w ∷ []) k v a) p e
chain_more {vs} w (follows {k = k} {v = v} a p l h c) = follows (numbered_more vs (w ∷ []) k v a) p l h (chain_more w c)

sound_start : (k : ℕ) (v : Visit) → 1 ≤ k → v.parent ≡ 0 → v.event ≡ 0 → sound k v ≡ true
sound_start k v h p e = rw (p, e, lt-ltb 0 k h)

sound_next : (k : ℕ) (v : Visit) → v.parent < k → 1 ≤ v.parent → 1 ≤ v.event → v.event ≤ 10 → sound k v ≡ true
sound_next k v p q l h = rw (lt-ltb v.parent k p, ne_eqb v.parent 0 (λ z. omega arith), le-leb 1 v.event l, le-leb v.event 10 h)

-- a sound visit is a start, or comes after another
pub sound_cases : (k : ℕ) (v : Visit) → sound k v ≡ true → (v.parent < k) × (((v.parent ≡ 0) × (v.event ≡ 0)) ⊎ ((1 ≤ v.parent) × (1 ≤ v.event) × (v.event ≤ 10)))
sound_cases k v s =
    let h = and_parts (ltb v.parent k) (cond (eqb v.parent 0) (eqb v.event 0) (leb 1 v.event && leb v.event 10)) s in
    (ltb-true v.parent k h.0, go (eqb v.parent 0) refl h.1)
  where
    go : (b : Bool) → eqb v.parent 0 ≡ b → cond b (eqb v.event 0) (leb 1 v.event && leb v.event 10) ≡ true → ((v.parent ≡ 0) × (v.event ≡ 0)) ⊎ ((1 ≤ v.parent) × (1 ≤ v.event) × (v.event ≤ 10))
    go true p e = inl (eqb-true v.parent 0 p, eqb-true v.event 0 e)
    go false p e =
        let q = eqb-false v.parent 0 p in
        let h = and_parts (leb 1 v.event) (leb v.event 10) e in
        inr ((omega arith), leb-true 1 v.event h.0, leb-true v.event 10 h.1)

linked_same : (k : ℕ) (o : Option Visit) (f g : ℕ → Option (List ℕ)) → ((p : ℕ) → p < k → f p ≡ g p) → linked k o f ≡ linked k o g
linked_same k None f g h = refl
linked_same k (Some v) f g h = go (sound k v) refl
  where
    go : (b : Bool) → sound k v ≡ b → cond b (cond (eqb v.parent 0) (Some []) (and_then (f v.parent) v.event)) None ≡ cond b (cond (eqb v.parent 0) (Some []) (and_then (g v.parent) v.event)) None
    go true s = ap (λ o. cond (eqb v.parent 0) (Some []) (and_then o v.event)) (h v.parent (sound_cases k v s).0)
    go false s = refl

-- any bound from the visit's number on gives the same chain
pub chain_same : (vs : List Visit) (m n k : ℕ) → k ≤ m → k ≤ n → chain vs m k ≡ chain vs n k
unfolding chain
chain_same vs zero zero k a b = refl
chain_same vs zero (suc n) zero a b = refl
chain_same vs zero (suc n) (suc k) a b = absurd (omega arith)
chain_same vs (suc m) zero zero a b = refl
chain_same vs (suc m) zero (suc k) a b = absurd (omega arith)
chain_same vs (suc m) (suc n) k a b = linked_same k (numbered vs k) (chain vs m) (chain vs n) (λ p l. chain_same vs m n p (omega arith) (omega arith))

-- the chain that ends with a visit, by that visit and the chain before it
pub chained_link : (vs : List Visit) (k : ℕ) → chained vs k ≡ linked k (numbered vs k) (chained vs)
unfolding chain
chained_link vs zero = refl
chained_link vs (suc j) = linked_same (suc j) (numbered vs (suc j)) (chain vs j) (chained vs) (λ p l. chain_same vs j p p (omega arith) (omega arith))

-- the chain by its last visit: broken where that is not sound, else at its start or going on
pub chained_broken : (vs : List Visit) (k : ℕ) (v : Visit) → numbered vs k ≡ Some v → sound k v ≡ false → chained vs k ≡ None
chained_broken vs k v a s = chained_link vs k ∙ rw (a, s)

pub chained_start : (vs : List Visit) (k : ℕ) (v : Visit) → numbered vs k ≡ Some v → sound k v ≡ true → v.parent ≡ 0 → chained vs k ≡ Some []
chained_start vs k v a s p = chained_link vs k ∙ rw (a, s, eq-eqb v.parent 0 p)

pub chained_next : (vs : List Visit) (k : ℕ) (v : Visit) → numbered vs k ≡ Some v → sound k v ≡ true → (v.parent ≡ 0 → ⊥) → chained vs k ≡ and_then (chained vs v.parent) v.event
chained_next vs k v a s p = chained_link vs k ∙ rw (a, s, ne_eqb v.parent 0 p)

-- a sound chain is what the definition computes
pub chain_computes : {vs : List Visit} {k : ℕ} {es : List ℕ} → Chain vs k es → chained vs k ≡ Some es
chain_computes {vs} (starts {k = k} {v = v} a p e) =
    chained_start vs k v a (sound_start k v (numbered_within vs k v a).0 p e) p
chain_computes {vs} (follows {k = k} {v = v} a p l h c) =
    let q = (chain_within c).0 in
    chained_next vs k v a (sound_next k v p q l h) (λ z. omega arith) ∙ ap (λ o. and_then o v.event) (chain_computes c)

and_then_some : (o : Option (List ℕ)) (e : ℕ) (es : List ℕ) → and_then o e ≡ Some es → (bs : List ℕ) × (o ≡ Some bs) × (es ≡ bs ++ e ∷ [])
and_then_some None e es h = none_some None es refl h
and_then_some (Some bs) e es h = (bs, refl, cc)

-- a link of what are sound chains is one
linked_chain : (vs : List Visit) (k : ℕ) (o : Option Visit) → numbered vs k ≡ o → (before : ℕ → Option (List ℕ)) → ((p : ℕ) (bs : List ℕ) → before p ≡ Some bs → Chain vs p bs) → (es : List ℕ) → linked k o before ≡ Some es → Chain vs k es
linked_chain vs k None a before f es h = none_some None es refl h
linked_chain vs k (Some v) a before f es h = checked (sound k v) refl h
  where
    next : sound k v ≡ true → (b : Bool) → eqb v.parent 0 ≡ b → cond b (Some []) (and_then (before v.parent) v.event) ≡ Some es → Chain vs k es
    next s true p h = elim (sound_cases k v s).1 [
      | inl z ↦ (let q : [] ≡ es = cc in rw (← q) (starts a z.0 z.1))
      | inr z ↦ absurd (omega (arith, z.0, eqb-true v.parent 0 p))
    ]
    next s false p h =
        let b = and_then_some (before v.parent) v.event es h in
        elim (sound_cases k v s).1 [
          | inl z ↦ absurd (eqb-false v.parent 0 p z.0)
          | inr z ↦ rw b.2 (follows a (sound_cases k v s).0 z.1 z.2 (f v.parent b.0 b.1))
        ]

    checked : (b : Bool) → sound k v ≡ b → cond b (cond (eqb v.parent 0) (Some []) (and_then (before v.parent) v.event)) None ≡ Some es → Chain vs k es
    checked true s h = next s (eqb v.parent 0) refl h
    checked false s h = none_some None es refl h

-- what the definition computes is a sound chain
pub computes_chain : (vs : List Visit) (m k : ℕ) (es : List ℕ) → chain vs m k ≡ Some es → Chain vs k es
unfolding chain
computes_chain vs zero k es h = none_some None es refl h
computes_chain vs (suc m) k es h = linked_chain vs k (numbered vs k) refl (chain vs m) (λ p bs. computes_chain vs m p bs) es h
