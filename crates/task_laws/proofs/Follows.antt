-- States of which one simulates the other: what they have in common.
use Rattle.std.proofs.Common.{◌≡◌, true, List, refl, ◌∙◌, subst}
use Rattle.std.proofs.lemmas.Bool.{and_parts, and_from, false≢true}
use Rattle.task_table.specs.declared.task.Task.{Task}
use Rattle.task_table.specs.declared.mode.Mode.{Mode}
use Rattle.task_table.specs.declared.mode.Mode.TheVariants.{Low, High}
use Rattle.task_table.specs.Tasks.{Right}
use Rattle.jobs.specs.declared.kind.Kind.{Kind}
use Rattle.job_state.specs.declared.state.State.{State}
use Rattle.jobs.specs.Jobs.{fits_job, late_job, doomed_job, due_job}
use Rattle.job_state.specs.Lists.{every}
use Rattle.job_state.specs.States.{fits, late, doomed, due}
use Rattle.policies.specs.Picks.{Pick, seen}
use Rattle.task_laws.specs.Systems.{same_mode, doomed_in, simulates, picked}
use Rattle.task_laws.specs.Claims.{Lawful, Table}
use Rattle.task_laws.proofs.Boths.{Rel, Both, both_in, one_in, out_left, out_right, out_both, both_like, both_join, any_same, map_both}
use Rattle.task_laws.proofs.Perjob.{Fit, fit_in, fit_out, Close, close_in, close_out, close_self, close_through, close_seen, close_late, close_doomed, close_due}

pub same_mode_true : (m n : Mode) → same_mode m n ≡ true → m ≡ n
same_mode_true Low Low e = refl
same_mode_true Low High e = absurd (false≢true e)
same_mode_true High Low e = absurd (false≢true e)
same_mode_true High High e = refl

same_mode_self : (m : Mode) → same_mode m m ≡ true
same_mode_self Low = refl
same_mode_self High = refl

module _ (kind : Kind) (tasks : List Task) where
  -- a right task with two jobs that fit, the first of which simulates the other
  abbrev pub Alike : Mode → Rel
  Alike m r x y = Right r × Fit kind m r x × Fit kind m r y × Close kind x y

  pub record Follows (a b : State) : Type 0 where
    pub level : a.mode ≡ b.mode
    pub both : Both (Alike b.mode) tasks a.jobs b.jobs

  module _ (T : Table tasks) where
    pub follows : (a b : State) → simulates kind tasks a b ≡ true → Follows a b
    unfolding simulates fits
    follows a b e =
        let p = and_parts _ _ e in
        let f = and_parts _ _ p.0 in
        let q = and_parts _ _ p.1 in
        let m : a.mode ≡ b.mode = same_mode_true a.mode b.mode q.0 in
        record {
          level = m;
          both = both_like _ (Alike b.mode) tasks a.jobs b.jobs (λ r x y h. let g = fit_in kind b.mode r x h.1 in (h.0, g, fit_in kind b.mode r y h.2, close_in kind b.mode r y g h.3))
              (both_in Right (fits_job kind b.mode) (fits_job kind b.mode) kind tasks a.jobs b.jobs T.rights (subst (λ (n : Mode). every (fits_job kind n) tasks a.jobs ≡ true) m f.0) f.1 q.1);
        }

    pub fitted : (v : State) → fits kind tasks v ≡ true → Follows v v
    unfolding fits
    fitted v e = record {
      level = refl;
      both = both_like _ (Alike v.mode) tasks v.jobs v.jobs (λ r x y h. let f = fit_in kind v.mode r x h.1 in (h.0, f, subst (Fit kind v.mode r) h.2 f, subst (Close kind x) h.2 (close_self kind v.mode r f)))
          (one_in Right (fits_job kind v.mode) tasks v.jobs T.rights e);
    }

  pub fits_left : (a b : State) → Follows a b → fits kind tasks a ≡ true
  unfolding fits
  fits_left a b s = rw s.level (out_left (Alike b.mode) _ tasks a.jobs b.jobs (λ r x y h. fit_out kind b.mode r h.1) s.both)

  pub fits_right : (a b : State) → Follows a b → fits kind tasks b ≡ true
  unfolding fits
  fits_right a b s = out_right (Alike b.mode) _ tasks a.jobs b.jobs (λ r x y h. fit_out kind b.mode r h.2) s.both

  pub simulated : (a b : State) → Follows a b → simulates kind tasks a b ≡ true
  unfolding simulates
  simulated a b s = and_from _ _ (and_from _ _ (fits_left a b s) (fits_right a b s)) (and_from _ _ (rw s.level (same_mode_self b.mode)) (out_both (Alike b.mode) kind tasks a.jobs b.jobs (λ r x y h. close_out kind h.3) s.both))

  pub late_same : (a b : State) → Follows a b → late tasks a ≡ late tasks b
  unfolding late
  late_same a b s = any_same (Alike b.mode) late_job tasks a.jobs b.jobs (λ r x y h. close_late kind r h.3) s.both

  pub doomed_same : (a b : State) → Follows a b → doomed_in kind tasks a ≡ doomed_in kind tasks b
  unfolding doomed_in doomed
  doomed_same a b s = rw (fits_left a b s, fits_right a b s, s.level) (any_same (Alike b.mode) (doomed_job b.mode) tasks a.jobs b.jobs (λ r x y h. close_doomed kind b.mode r h.3) s.both)

  pub due_same : (a b : State) → Follows a b → due kind tasks a ≡ due kind tasks b
  unfolding due
  due_same a b s = any_same (Alike b.mode) (λ _. due_job kind) tasks a.jobs b.jobs (λ r x y h. close_due kind h.3) s.both

  -- the one use of the policy's second law
  pub picked_same : (pick : Pick) → Lawful pick → (a b : State) → Follows a b → picked pick kind tasks a ≡ picked pick kind tasks b
  picked_same pick L a b s = rw s.level (L.blind tasks b.mode a.jobs b.jobs (map_both (Alike b.mode) seen tasks a.jobs b.jobs (λ r x y h. close_seen kind h.3) s.both))

  pub joined : (x y z : State) → Follows x y → Follows y z → Follows x z
  joined x y z s t = record { level = s.level ∙ t.level; both = both_join (Alike y.mode) (Alike z.mode) (Alike z.mode) tasks x.jobs y.jobs z.jobs (λ r u v w p q. (p.0, subst (λ (m : Mode). Fit kind m r u) t.level p.1, q.2, close_through kind p.3 q.3)) s.both t.both }
