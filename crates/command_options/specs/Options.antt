-- How options and their values are spelled.
use Rattle.std.specs.Prelude.{List, [], ◌∷◌, codes}
use Rattle.jobs.specs.declared.kind.Kind.{Kind}
use Rattle.jobs.specs.declared.kind.Kind.TheVariants.{Sporadic, Periodic}
use Rattle.command_options.specs.declared.options.Key.{Key}
use Rattle.command_options.specs.declared.options.Key.TheVariants as key
use Rattle.command_options.specs.declared.options.Flag.{Flag}
use Rattle.command_options.specs.declared.options.Flag.TheVariants as flag
use Rattle.command_options.specs.declared.settings.OrderName.{OrderName}
use Rattle.command_options.specs.declared.settings.OrderName.TheVariants.{Fixed, Deadline, Laxity}
use Rattle.command_options.specs.Named.{Word}

abbrev pub key_word : Key → Word
key_word key.Kind = codes "--kind"
key_word key.Policy = codes "--policy"
key_word key.Ranks = codes "--ranks"
key_word key.Shorten = codes "--shorten"
key_word key.Events = codes "--events"
key_word key.Nodes = codes "--nodes"
key_word key.Visits = codes "--visits"

abbrev pub keys : List Key
keys = key.Kind ∷ key.Policy ∷ key.Ranks ∷ key.Shorten ∷ key.Events ∷ key.Nodes ∷ key.Visits ∷ []

abbrev pub flag_word : Flag → Word
flag_word flag.HighFirst = codes "--high-first"
flag_word flag.Porcelain = codes "--porcelain"
flag_word flag.RequireSchedulable = codes "--require-schedulable"
flag_word flag.Quiet = codes "--quiet"

abbrev pub flags : List Flag
flags = flag.HighFirst ∷ flag.Porcelain ∷ flag.RequireSchedulable ∷ flag.Quiet ∷ []

abbrev pub kind_word : Kind → Word
kind_word Sporadic = codes "sporadic"
kind_word Periodic = codes "periodic"

abbrev pub kinds : List Kind
kinds = Sporadic ∷ Periodic ∷ []

abbrev pub order_word : OrderName → Word
order_word Fixed = codes "fixed"
order_word Deadline = codes "deadline"
order_word Laxity = codes "laxity"

abbrev pub orders : List OrderName
orders = Fixed ∷ Deadline ∷ Laxity ∷ []
