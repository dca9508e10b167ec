-- Private. A read of a source, from the code's.
use Rattle.jc_source.specs.Source.{Asked, Certificate, Image}
use Rattle.jc_memory.specs.declared.reads.NamedRead.{NamedRead}
use Rattle.jc_memory.specs.declared.reads.NamedRead.TheVariants as reads

abbrev pub asked_by : NamedRead → Asked
asked_by (reads.Image name) = Image name.now
asked_by (reads.Certificate name) = Certificate name.now
