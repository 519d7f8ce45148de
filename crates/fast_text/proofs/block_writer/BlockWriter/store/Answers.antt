use Rattle.std.proofs.Common.{rules}
use Rattle.fast_text.proofs.Blocks.{stored}
use Rattle.fast_text.proofs.block_writer.BlockWriter.store.Goals as goal

pub returns-clause-kept : goal.returns-clause-kept
returns-clause-kept g c = search (rules, stored)
