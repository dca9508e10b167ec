-- Lists that are copied.
pub use Rattle.jc_base.proofs.Copied.{at_more}
