-- What the lock of a canal means as a transition system: event 1 is a boat that comes, event 2 a tick.
use Rattle.std.specs.Prelude.{ℕ, ◌+◌, ◌-◌, Bool, true, false, cond, not, ◌&&◌, ◌||◌, Ok, Err, Result, ◌==◌, nat_le}
use Rattle.transition.specs.declared.refusal.Refusal.{Refusal}
use Rattle.transition.specs.declared.refusal.Refusal.TheVariants.{Late, Lacking, NotDoomed, NotFitting, Own}
use Rattle.transition.specs.Meanings.{Meaning}
use Rattle.canal_lock.specs.declared.lock.Lock.{Lock}
use Rattle.canal_lock.specs.declared.lock.Chamber.{Chamber}
use Rattle.canal_lock.specs.declared.refusal.LockRefusal.{LockRefusal}
use Rattle.canal_lock.specs.declared.refusal.LockRefusal.TheVariants.{OneWaits, TooSoon}

-- the chamber is ready and no boat has come yet
abbrev pub calm : Chamber
calm = record { turn = 0; boat = false; wait = 0; pause = 0 }

-- no time is past the lock's figures, and only a boat waits
abbrev pub fits : Lock → Chamber → Bool
fits l x = (nat_le x.turn l.fill && nat_le x.pause l.gap) && (nat_le x.wait l.patience && (x.boat || x.wait == 0))

-- a boat has waited as long as it may
abbrev pub late : Lock → Chamber → Bool
late l x = fits l x && (x.boat && nat_le l.patience x.wait)

-- a boat waits that the chamber will not be ready for in time
abbrev pub doomed : Lock → Chamber → Bool
doomed l x = fits l x && (x.boat && nat_le l.patience (x.wait + x.turn))

-- a boat comes, and begins to wait
abbrev pub come : Lock → Chamber → Chamber
come l x = record { turn = x.turn; boat = true; wait = 0; pause = l.gap }

-- a boat goes through the ready chamber, which then turns
abbrev pub through : Lock → Chamber → Chamber
through l x = record { turn = l.fill; boat = false; wait = 0; pause = x.pause - 1 }

-- the chamber turns on, and a boat waits on
abbrev pub wait_on : Chamber → Chamber
wait_on x = record { turn = x.turn - 1; boat = x.boat; wait = cond x.boat (x.wait + 1) 0; pause = x.pause - 1 }

-- a tick takes a boat through where the chamber is ready
abbrev pub tick : Lock → Chamber → Chamber
tick l x = cond (x.boat && x.turn == 0) (through l x) (wait_on x)

-- a boat comes only where none waits, and not too soon after the one before
abbrev pub arrival : Lock → Chamber → Result Chamber (Refusal LockRefusal)
arrival l x = cond x.boat (Err (Own OneWaits)) (cond (x.pause == 0) (Ok (come l x)) (Err (Own TooSoon)))

-- what an event gives in a fitting state that is not late
abbrev pub happens : Lock → ℕ → Chamber → Result Chamber (Refusal LockRefusal)
happens l e x = cond (e == 1) (arrival l x) (cond (e == 2) (Ok (tick l x)) (Err Lacking))

-- what an event gives, or why it is refused
abbrev pub gives : Lock → ℕ → Chamber → Result Chamber (Refusal LockRefusal)
gives l e x = cond (fits l x) (cond (late l x) (Err Late) (happens l e x)) (Err NotFitting)

-- a tick brings a doomed boat nearer to being late
abbrev pub forced : Lock → Chamber → Result ℕ (Refusal LockRefusal)
forced l x = cond (fits l x) (cond (late l x) (Err Late) (cond (doomed l x) (Ok 2) (Err NotDoomed))) (Err NotFitting)

-- two tests that come out alike
abbrev pub alike : Bool → Bool → Bool
alike a b = cond a b (not b)

-- the same chamber, and the next boat may come no later
abbrev pub simulates : Lock → Chamber → Chamber → Bool
simulates l x y = (fits l x && fits l y) && ((x.turn == y.turn && alike x.boat y.boat) && (x.wait == y.wait && nat_le x.pause y.pause))

-- the lock as a transition system
abbrev pub meaning : Lock → Meaning Chamber LockRefusal
meaning l = record {
  count = 2;
  fits = fits l;
  first = calm;
  gives = gives l;
  doomed = doomed l;
  late = late l;
  simulates = simulates l;
  forced = forced l;
  events_to_miss = λ x. l.patience - x.wait;
}
