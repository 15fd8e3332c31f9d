-- A small run, by computing.
use mathlib.Core.Path.{refl}
use Rattle.rules.specs.Calls.{enquiring}
use Rattle.text.specs.Numbers.{value_from, number_of, digits_within}
use Rattle.text.specs.Parts.{split}
use Rattle.requests.specs.Requests.{read_numbers, read_call, read_request}
use Rattle.answers.specs.Answers.{answer_text}
use Rattle.reply.specs.Reply.{answered}
use Rattle.session.specs.Session.{session, console}
use Rattle.session.specs.LawsOfChains.{SmallRunIsAnswered}

pub small_run : SmallRunIsAnswered
unfolding console session answered read_request read_call read_numbers number_of value_from split answer_text digits_within enquiring
small_run = refl
