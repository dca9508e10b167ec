use Rattle.jc_api.proofs.Believing.{read_means, means_read}
use Rattle.jc_api.proofs.binding.read_texts_are_bindings.Goals as goal

pub returns : goal.returns
returns c text bound = (read_means text bound, means_read text bound)
