use Rattle.restarts.proofs.Claims.{since_image}
use Rattle.restarts.proofs.from_elsewhere.image_from_elsewhere.Goals as goal

pub returns : goal.returns
returns c =
    record {
      limit = λ x events image calls e. (since_image x events image calls e).three.limit;
      balance = λ x events image calls e. (since_image x events image calls e).three.balance;
      site = λ x events image calls e. (since_image x events image calls e).three.site;
      feeders = λ x events image calls e. (since_image x events image calls e).three.feeders;
      tickets = λ x events image calls e. (since_image x events image calls e).three.tickets;
      no_other = λ x events image calls e. (since_image x events image calls e).three.no_other;
      no_other_found = λ x events image calls e. (since_image x events image calls e).three.no_other_found;
      unmoved = λ x events image calls e. (since_image x events image calls e).three.unmoved;
      begun = λ x events image calls e. (since_image x events image calls e).begun;
      not_again = λ x events image calls e. (since_image x events image calls e).not_again;
    }
