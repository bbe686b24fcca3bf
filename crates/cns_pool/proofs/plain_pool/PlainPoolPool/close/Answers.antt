use Rattle.cns_pool.proofs.PoolLemmas.{IsPool-Tiles}
use Rattle.cns_pool.proofs.plain_pool.PlainPoolPool.close.Goals as goal

pub returns-clause-tiles : goal.returns-clause-tiles
returns-clause-tiles c share = let tiles = IsPool-Tiles _ c.self.invariant.lawful share in cc
