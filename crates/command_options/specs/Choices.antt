-- How a table is run.
use Rattle.std.specs.Prelude.{ℕ, Bool, true, false, not, ◌&&◌, List, is_some, Some, None, vec_items, Option}
use Rattle.std.specs.Option.{option_map}
use Rattle.jobs.specs.declared.kind.Kind.{Kind}
use Rattle.jobs.specs.declared.kind.Kind.TheVariants.{Sporadic}
use Rattle.command_options.specs.declared.settings.OrderName.{OrderName}
use Rattle.command_options.specs.declared.settings.OrderName.TheVariants.{Fixed, Deadline, Laxity}
use Rattle.command_options.specs.declared.settings.Settings.{Settings}

pub record Chosen : Type 0 where
  pub kind : Kind
  pub order : OrderName
  pub ranks : Option (List ℕ)
  pub high_first : Bool
  pub shorten : Option (List ℕ)
  pub porcelain : Bool

-- what is chosen without any option
abbrev pub unchosen : Chosen
unchosen = record { kind = Sporadic; order = Deadline; ranks = None; high_first = false; shorten = None; porcelain = false }

abbrev pub with_kind : Kind → Chosen → Chosen
with_kind k c = record { kind = k; order = c.order; ranks = c.ranks; high_first = c.high_first; shorten = c.shorten; porcelain = c.porcelain }

abbrev pub with_order : OrderName → Chosen → Chosen
with_order o c = record { kind = c.kind; order = o; ranks = c.ranks; high_first = c.high_first; shorten = c.shorten; porcelain = c.porcelain }

abbrev pub with_ranks : List ℕ → Chosen → Chosen
with_ranks ns c = record { kind = c.kind; order = c.order; ranks = Some ns; high_first = c.high_first; shorten = c.shorten; porcelain = c.porcelain }

abbrev pub with_shorten : List ℕ → Chosen → Chosen
with_shorten ns c = record { kind = c.kind; order = c.order; ranks = c.ranks; high_first = c.high_first; shorten = Some ns; porcelain = c.porcelain }

abbrev pub with_high_first : Chosen → Chosen
with_high_first c = record { kind = c.kind; order = c.order; ranks = c.ranks; high_first = true; shorten = c.shorten; porcelain = c.porcelain }

abbrev pub with_porcelain : Chosen → Chosen
with_porcelain c = record { kind = c.kind; order = c.order; ranks = c.ranks; high_first = c.high_first; shorten = c.shorten; porcelain = true }

abbrev pub is_fixed : OrderName → Bool
is_fixed Fixed = true
is_fixed Deadline = false
is_fixed Laxity = false

-- ranks, but no fixed order that goes by them
abbrev pub loose_ranks : Chosen → Bool
loose_ranks c = is_some c.ranks && not (is_fixed c.order)

-- the code's settings in the same terms
abbrev pub chosen_in : Settings → Chosen
chosen_in s = record { kind = s.kind; order = s.order; ranks = option_map vec_items s.ranks; high_first = s.high_first; shorten = option_map vec_items s.shorten; porcelain = s.porcelain }
