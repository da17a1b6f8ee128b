-- Walking a chain of visits from its end to its start.
use Rattle.std.proofs.Common.{◌≡◌, ℕ, ◌+◌, ◌-◌, ◌<◌, ◌≤◌, true, false, List, [], ◌∷◌, ◌++◌, length, drop, set, Some, None, Ok, Option, sym, refl, ap, ◌∙◌, subst, arith}
use Rattle.std.specs.Option.{option_map}
use Rattle.std.proofs.lemmas.List.{append_assoc, append-nil, drop-set, length_push, length-set}
use Rattle.exploration.specs.declared.node.Visit.{Visit}
use Rattle.exploration.specs.Lists.{numbered}
use Rattle.exploration.specs.Traces.{sound, and_then, chained, Chain, starts, follows}
use Rattle.exploration.proofs.Chains.{chain_within, computes_chain, chained_broken, chained_start, chained_next}
use Rattle.tracing.specs.Told.{over_front}

-- the events with others behind them
abbrev pub behind : Option (List ℕ) → List ℕ → Option (List ℕ)
behind None fs = None
behind (Some es) fs = Some (es ++ fs)

behind_more : (o : Option (List ℕ)) (e : ℕ) (fs : List ℕ) → behind (and_then o e) fs ≡ behind o (e ∷ fs)
behind_more None e fs = refl
behind_more (Some es) e fs = ap Some (append_assoc es (e ∷ []) fs)

-- the events past the visit k are counted
pub record Counting (vs : List Visit) (number k count : ℕ) : Type 0 where
  pub events : List ℕ
  pub long : length events ≡ count
  pub same : chained vs number ≡ behind (chained vs k) events

module _ (vs : List Visit) (number : ℕ) where
  pub counting_start : Counting vs number number 0
  counting_start = record { events = []; long = refl; same = with_none (chained vs number) }
    where
      with_none : (o : Option (List ℕ)) → o ≡ behind o []
      with_none None = refl
      with_none (Some es) = ap Some (sym (append-nil es))

  module _ (k count : ℕ) (h : Counting vs number k count) (v : Visit) (at : numbered vs k ≡ Some v) where
    pub counting_broken : sound k v ≡ false → None ≡ option_map length (chained vs number)
    counting_broken s = sym (ap (option_map length) (h.same ∙ ap (λ o. behind o h.events) (chained_broken vs k v at s)))

    pub counting_start_found : sound k v ≡ true → v.parent ≡ 0 → Some count ≡ option_map length (chained vs number)
    counting_start_found s p = sym (ap (option_map length) (h.same ∙ ap (λ o. behind o h.events) (chained_start vs k v at s p)) ∙ ap Some h.long)

    pub counting_more : sound k v ≡ true → (v.parent ≡ 0 → ⊥) → Counting vs number v.parent (count + 1)
    counting_more s p = record {
      events = v.event ∷ h.events;
      long = omega (arith, h.long);
      same = h.same ∙ ap (λ o. behind o h.events) (chained_next vs k v at s p) ∙ behind_more (chained vs v.parent) v.event h.events;
    }

-- the last event of a chain that has one, and the chain before it
last_event : {vs : List Visit} {k : ℕ} {es : List ℕ} → Chain vs k es → 0 < length es → (v : Visit) → numbered vs k ≡ Some v → (bs : List ℕ) × Chain vs v.parent bs × (es ≡ bs ++ v.event ∷ [])
last_event (starts a p e) h v at = absurd (omega arith)
last_event {vs} (follows {v = w} {es = bs} a p l m c) h v at =
    let same : w ≡ v = cc in
    subst (λ (u : Visit). (cs : List ℕ) × Chain vs u.parent cs × (bs ++ w.event ∷ [] ≡ cs ++ u.event ∷ [])) same (bs, c, refl)

-- the events of the chain from k on are written, and those before it are left to write
pub record Writing (vs : List Visit) (number : ℕ) (before : List ℕ) (k left : ℕ) (list : List ℕ) : Type 0 where
  pub events : List ℕ
  pub chain : Chain vs k events
  pub within : (1 ≤ k) × (k ≤ length vs)
  pub long : length events ≡ left
  pub room : left ≤ length list
  pub same : (es : List ℕ) → chained vs number ≡ Some es → over_front (Ok es) before ≡ events ++ drop left list

module _ {vs : List Visit} {number : ℕ} where
  pub writing_start : (count : ℕ) (list : List ℕ) → option_map length (chained vs number) ≡ Some count → count ≤ length list → Writing vs number list number count list
  writing_start count list m room = go (chained vs number) refl m
    where
      go : (o : Option (List ℕ)) → chained vs number ≡ o → option_map length o ≡ Some count → Writing vs number list number count list
      go None is m = absurd (let z : ◌≡◌ {A = ℕ} 0 1 = cc in omega arith)
      go (Some es) is m =
          let long : length es ≡ count = cc in
          record {
            events = es;
            chain = computes_chain vs number number es is;
            within = chain_within (computes_chain vs number number es is);
            long = long;
            room = room;
            same = λ fs f. let one : fs ≡ es = cc in ap (λ gs. over_front (Ok gs) list) one ∙ ap (λ n. es ++ drop n list) long;
          }

  module _ {before list : List ℕ} {k left : ℕ} (h : Writing vs number before k left list) where
    pub writing_more : 0 < left → (v : Visit) → numbered vs k ≡ Some v → Writing vs number before v.parent (left - 1) (set list (left - 1) v.event)
    writing_more more v at =
        let last = last_event h.chain (omega (arith, h.long)) v at in
        let room = h.room in
        let bs = last.0 in
        let longer : length (bs ++ v.event ∷ []) ≡ left = ap length (sym last.2) ∙ h.long in
        let inside : left - 1 < length list = omega arith in
        let next : left - 1 + 1 ≡ left = omega arith in
        record {
          events = bs;
          chain = last.1;
          within = chain_within last.1;
          long = omega (arith, length_push bs v.event, longer);
          room = simp length-set (omega arith);
          same = λ es e.
              h.same es e ∙ ap (λ ds. ds ++ drop left list) last.2 ∙ append_assoc bs (v.event ∷ []) (drop left list)
              ∙ ap (λ m. bs ++ v.event ∷ drop m list) (sym next) ∙ ap (λ ds. bs ++ ds) (sym (drop-set list (left - 1) v.event inside));
        }

    pub writing_end : left ≡ 0 → (es : List ℕ) → chained vs number ≡ Some es → list ≡ over_front (Ok es) before
    writing_end none es e = go h.events (h.long ∙ none) (h.same es e)
      where
        go : (bs : List ℕ) → length bs ≡ 0 → over_front (Ok es) before ≡ bs ++ drop left list → list ≡ over_front (Ok es) before
        go [] l s = ap (λ m. drop m list) (sym none) ∙ sym s
        go (b ∷ bs) l s = absurd (omega arith)
