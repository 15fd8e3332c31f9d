use Rattle.guarantee.proofs.Each.{each_in}
use Rattle.restarts.proofs.Claims.{since_image}
use Rattle.restarts.proofs.from_elsewhere.orders_from_elsewhere.Goals as goal

pub returns : goal.returns
returns c =
    record {
      not_early = λ x events image calls e. each_in (λ o k. k.not_early) _ (since_image x events image calls e).three.orders;
      reported = λ x events image calls e. each_in (λ o k. k.reported) _ (since_image x events image calls e).three.orders;
      not_reported = λ x events image calls e. each_in (λ o k. k.not_reported) _ (since_image x events image calls e).three.orders;
      waits = λ x events image calls e. each_in (λ o k. k.waits) _ (since_image x events image calls e).three.orders;
      charges = λ x events image calls e. each_in (λ o k. k.charges) _ (since_image x events image calls e).three.orders;
      finished = λ x events image calls e. each_in (λ o k. k.finished) _ (since_image x events image calls e).three.orders;
      withdrawn_not_reported = λ x events image calls e. each_in (λ o k. k.not_reported) _ (since_image x events image calls e).three.gone;
      withdrawn_not_found = λ x events image calls e. each_in (λ o k. k.not_held_lem) _ (since_image x events image calls e).three.gone;
    }
