-- The pick of the least figure, in plain terms and as the laws want it.
use Rattle.std.specs.Prelude.{◌≡◌, ℕ, zero, suc, ◌+◌, ◌-◌, ◌<◌, List, [], ◌∷◌, length, ℤ, Some, None, Option, slice_index_or}
use Rattle.std.proofs.Common.{sym, ap, ◌∙◌, inl, inr, arith}
use Rattle.std.specs.List.{slice_get}
use Rattle.std.proofs.lemmas.List.{get_or_past}
use Rattle.std.proofs.lemmas.Option.{slice_get-get_or}
use Rattle.std.proofs.lemmas.Bool.{cases_lt, lt-ltb}
use Rattle.task_table.specs.declared.task.Task.{Task}
use Rattle.task_table.specs.Tables.{numbered}
use Rattle.jobs.specs.declared.job.Job.{Job}
use Rattle.jobs.specs.declared.job.Job.TheVariants.{Absent, Ready}
use Rattle.job_state.specs.Lists.{job_numbered}
use Rattle.policies.specs.declared.best.Best.{Best}
use Rattle.policies.specs.Picks.{PicksReady}
use Rattle.policies.specs.Leasts.{Figured, number_of, least, HasFigure, Least}
use Rattle.policies.specs.Leads.{At, Led, nobody, lead, best_led}

pub nth_within : {X : Type 0} (xs : List X) (i : ℕ) (a : X) → slice_get xs i ≡ Some a → i < length xs
nth_within [] i a e = let z : ◌≡◌ {A = ℕ} 0 1 = cc in absurd (omega arith)
nth_within (x ∷ xs) zero a e = omega arith
nth_within (x ∷ xs) (suc i) a e = omega (arith, nth_within xs i a e)

pub nth_get : {X : Type 0} (xs : List X) (i : ℕ) (d a : X) → slice_get xs i ≡ Some a → slice_index_or xs i d ≡ a
nth_get [] i d a e = let z : ◌≡◌ {A = ℕ} 0 1 = cc in absurd (omega arith)
nth_get (x ∷ xs) zero d a e = cc
nth_get (x ∷ xs) (suc i) d a e = nth_get xs i d a e

-- an index and its number
pub numbered_suc : (ts : List Task) (i : ℕ) → numbered ts (i + 1) ≡ slice_get ts i
numbered_suc ts i = let s : 0 < i + 1 = omega arith in let e : (i + 1) - 1 ≡ i = omega arith in rw (lt-ltb 0 (i + 1) s, e)

pub job_suc : (xs : List Job) (i : ℕ) → job_numbered xs (i + 1) ≡ slice_index_or xs i Absent
job_suc xs i = let s : 0 < i + 1 = omega arith in let e : (i + 1) - 1 ≡ i = omega arith in rw (lt-ltb 0 (i + 1) s, e)

pub ready_nth : (xs : List Job) (i w l : ℕ) → slice_index_or xs i Absent ≡ Ready w l → slice_get xs i ≡ Some (Ready w l)
ready_nth xs i w l e = elim (cases_lt i (length xs)) [
  | inl h ↦ slice_get-get_or xs i Absent h ∙ ap Some e
  | inr h ↦ let q : Absent ≡ Ready w l = sym (get_or_past xs i Absent h) ∙ e in let z : ◌≡◌ {A = ℕ} 0 1 = cc in absurd (omega arith)
]

-- a number that counts from 1 has an index
pub record Indexed (ts : List Task) (xs : List Job) (n : ℕ) (t : Task) (w l : ℕ) : Type 0 where
  pub index : ℕ
  pub counts : n ≡ index + 1
  pub row : slice_get ts index ≡ Some t
  pub job : slice_get xs index ≡ Some (Ready w l)

pub indexed : (ts : List Task) (xs : List Job) (n : ℕ) (t : Task) (w l : ℕ) → numbered ts n ≡ Some t → job_numbered xs n ≡ Ready w l → Indexed ts xs n t w l
indexed ts xs zero t w l a b = let z : ◌≡◌ {A = ℕ} 0 1 = cc in absurd (omega arith)
indexed ts xs (suc i) t w l a b =
    let e : suc i ≡ i + 1 = omega arith in
    record {
      index = i;
      counts = e;
      row = sym (numbered_suc ts i) ∙ (ap (numbered ts) (sym e) ∙ a);
      job = ready_nth xs i w l (sym (job_suc xs i) ∙ (ap (job_numbered xs) (sym e) ∙ b));
    }

module _ (f : Figured) (ts : List Task) (xs : List Job) where
  has : (n : ℕ) (z : ℤ) → At f 0 ts xs n z → HasFigure f ts xs n z
  has n z a =
      let e : n ≡ a.index + 1 = let c = a.counts in omega arith in
      record {
        task = a.task;
        wait = a.wait;
        left = a.left;
        row = ap (numbered ts) e ∙ (numbered_suc ts a.index ∙ a.row);
        ready = ap (job_numbered xs) e ∙ (job_suc xs a.index ∙ nth_get xs a.index Absent _ a.job);
        is = a.is;
      }

  at : (n : ℕ) (z : ℤ) → HasFigure f ts xs n z → At f 0 ts xs n z
  at n z h =
      let p = indexed ts xs n h.task h.wait h.left h.row h.ready in
      record { index = p.index; counts = (let c = p.counts in omega arith); task = h.task; wait = h.wait; left = h.left; row = p.row; job = p.job; is = h.is }

  least_by : {o : Option Best} → Led f 0 ts xs o → Least f ts xs (number_of o)
  least_by (nobody h) = λ k z a. h k z (at k z a)
  least_by (lead {b} w) = record { figure = b.figure; own = has b.number b.figure w.own; low = λ k z a. w.low k z (at k z a); first = λ k z l a. w.first k z l (at k z a) }

  pub least_leads : Least f ts xs (least f ts xs)
  least_leads = least_by (best_led f 0 ts xs)

  ready_by : (o : Option ℕ) → Least f ts xs o → PicksReady ts xs o
  ready_by None h = tt
  ready_by (Some n) h =
      let o = h.own in
      let p = indexed ts xs n o.task o.wait o.left o.row o.ready in
      let c = p.counts in
      let r = nth_within ts p.index o.task p.row in
      record { from_1 = omega arith; row = omega arith; wait = o.wait; left = o.left; ready = o.ready }

  pub least_ready : PicksReady ts xs (least f ts xs)
  least_ready = ready_by (least f ts xs) least_leads
