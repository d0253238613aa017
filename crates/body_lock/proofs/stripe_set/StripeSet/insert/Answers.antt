use Rattle.body_lock.proofs.Stripes.{put-stripe}
use Rattle.body_lock.proofs.stripe_set.StripeSet.insert.Goals as goal

pub returns : goal.returns
returns c = put-stripe c.args.self.now.bits c.args.stripe c.requires
