use Rattle.page.proofs.Showing.{shown_once}
use Rattle.page.proofs.laws.page_rows.Goals as goal

pub returns-clause-shown_once : goal.returns-clause-shown_once
returns-clause-shown_once c = shown_once
