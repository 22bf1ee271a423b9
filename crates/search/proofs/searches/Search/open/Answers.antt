use Rattle.search.proofs.Telling.{few_open}
use Rattle.search.proofs.searches.Search.open.Goals as goal

pub shared_ref_as_front-result : goal.shared_ref_as_front-result
shared_ref_as_front-result g c = few_open c.args.self.now
