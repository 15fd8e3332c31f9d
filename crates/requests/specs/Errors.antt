-- Why a request is no call, as text.
use Rattle.std.specs.Prelude.{ℕ, List, [], ◌∷◌, ◌++◌}
use Rattle.text.specs.Printed.{line_feed}
use Rattle.text.specs.declared.number.NumberError.TheVariants.{NotANumber, TooLarge}
use Rattle.requests.specs.declared.request.Reason.{Reason}
use Rattle.requests.specs.declared.request.Reason.TheVariants.{UnknownCall, Number, MissingNumber, ExtraNumber, LineTooLong}

abbrev pub reason_text : Reason → List ℕ
-- "unknown call"
reason_text UnknownCall = 117 ∷ 110 ∷ 107 ∷ 110 ∷ 111 ∷ 119 ∷ 110 ∷ 32 ∷ 99 ∷ 97 ∷ 108 ∷ 108 ∷ []
-- "not a number"
reason_text (Number NotANumber) = 110 ∷ 111 ∷ 116 ∷ 32 ∷ 97 ∷ 32 ∷ 110 ∷ 117 ∷ 109 ∷ 98 ∷ 101 ∷ 114 ∷ []
-- "number too large"
reason_text (Number TooLarge) =
    110 ∷ 117 ∷ 109 ∷ 98 ∷ 101 ∷ 114 ∷ 32 ∷ 116 ∷ 111 ∷ 111 ∷ 32 ∷ 108 ∷ 97 ∷ 114 ∷ 103 ∷ 101 ∷ []
-- "missing number"
reason_text MissingNumber =
    109 ∷ 105 ∷ 115 ∷ 115 ∷ 105 ∷ 110 ∷ 103 ∷ 32 ∷ 110 ∷ 117 ∷ 109 ∷ 98 ∷ 101 ∷ 114 ∷ []
-- "extra number"
reason_text ExtraNumber = 101 ∷ 120 ∷ 116 ∷ 114 ∷ 97 ∷ 32 ∷ 110 ∷ 117 ∷ 109 ∷ 98 ∷ 101 ∷ 114 ∷ []
-- "line too long"
reason_text LineTooLong = 108 ∷ 105 ∷ 110 ∷ 101 ∷ 32 ∷ 116 ∷ 111 ∷ 111 ∷ 32 ∷ 108 ∷ 111 ∷ 110 ∷ 103 ∷ []

-- "error ", and the reason
abbrev pub error_text : Reason → List ℕ
error_text reason = (101 ∷ 114 ∷ 114 ∷ 111 ∷ 114 ∷ 32 ∷ []) ++ (reason_text reason ++ line_feed)
