use Rattle.exploration.proofs.Tracings.{tracing}
use Rattle.exploration.proofs.claims.tracing_follows_chains.Goals as goal

pub returns : goal.returns
returns c = tracing
