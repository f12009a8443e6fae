-- Every arithmetic whose results move one way makes a catalogue that keeps the laws.
use Rattle.std.proofs.Common.{ℕ, ℤ, Option}
use Rattle.catalogue.specs.Operations.{Arith, ArithLaws}
use Rattle.catalogue.specs.Meanings.{Laws, Patterns, by_ranks}
use Rattle.catalogue.proofs.Laws.{narrowed_inside, narrowed_kept, narrowed_steady}
use Rattle.catalogue.proofs.Found.{partnered_is}

pub ranked_laws : (a : Arith) (read : ℕ → Option ℤ) (write : ℤ → ℕ) → ArithLaws a → Patterns a read write → Laws (by_ranks a read write)
ranked_laws a read write l p = record {
  ends = l.ends;
  reads = p.reads;
  writes = p.writes;
  inside = narrowed_inside a l;
  kept = narrowed_kept a l;
  steady = narrowed_steady a l;
  partner = partnered_is a l;
}
