-- What can be wrong with the words of a command line, and what it means that an answer is right.
use Rattle.std.specs.Prelude.{◌≡◌, Some, None, Ok, Err, Option, Result}
use Rattle.command_reading.specs.declared.misuse.Misuse.{Misuse}
use Rattle.command_reading.specs.declared.misuse.Misuse.TheVariants.{UnknownCommand, UnknownOption, NotHere, OneTooMany, NoValue, BadValue, NoEvents, RanksNeedFixed, NoMemory}
use Rattle.command_options.specs.declared.options.Key.{Key}
use Rattle.command_options.specs.Named.{Word}

pub data Wrong : Type 0 where
  unknown_command : Word → Wrong
  unknown_option : Word → Wrong
  not_here : Word → Wrong
  one_too_many : Word → Wrong
  no_value : Key → Wrong
  bad_value : Key → Word → Wrong
  no_events : Wrong
  ranks_need_fixed : Wrong

-- the code's refusals in the same terms; want of memory says nothing of the words
abbrev pub wrong : Misuse → Option Wrong
wrong (UnknownCommand w) = Some (unknown_command w.now)
wrong (UnknownOption w) = Some (unknown_option w.now)
wrong (NotHere w) = Some (not_here w.now)
wrong (OneTooMany w) = Some (one_too_many w.now)
wrong (NoValue k) = Some (no_value k)
wrong (BadValue k w) = Some (bad_value k w.now)
wrong NoEvents = Some no_events
wrong RanksNeedFixed = Some ranks_need_fixed
wrong NoMemory = None

abbrev pub Refuses : {Y : Type 0} → Result Y Wrong → Option Wrong → Type 0
Refuses d None = Unit {0}
Refuses d (Some e) = d ≡ Err e

-- the answer is what the definition says, unless memory ran out
abbrev pub Says : {X Y : Type 0} → (X → Y) → Result Y Wrong → Result X Misuse → Type 0
Says f d (Ok x) = d ≡ Ok (f x)
Says f d (Err m) = Refuses d (wrong m)

-- what follows from a result, where there is one
abbrev pub then : {X Y : Type 0} → Result X Wrong → (X → Result Y Wrong) → Result Y Wrong
then (Ok x) f = f x
then (Err e) f = Err e
