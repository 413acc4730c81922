-- What the firmware's face says. (Document 02, card 3.)
--   face_report H S xs               == the answer where nothing is refused, that of iterative voting on the samples that the bytes xs are
--   face_of H bs S xs w ls p         == what the face says
-- Assumes nothing.
use Rattle.std.specs.Prelude.{ℕ, List}
use Rattle.answers.specs.Paper.Answers.{Said, after}
use Rattle.byte_numbers.specs.Paper.Numbers.{samples_in}
use Rattle.matrix.specs.Paper.Code.{Matrix}
use Rattle.quantiser_levels.specs.Paper.Samples.{Setting}
use Rattle.iterative_core.specs.Paper.Iterative.{start_of, end_from, report_at}
use Rattle.firmware_asking.specs.Paper.Asked.{face_verdict}

-- "must call the iterative decoder"
unfoldable pub face_report : Matrix → Setting → List ℕ → Said
face_report H S xs = report_at H (start_of S (samples_in xs)) (end_from H S (samples_in xs))

-- the answer
unfoldable pub face_of : Matrix → List ℕ → Setting → List ℕ → ℕ → ℕ → ℕ → Said
face_of H bs S xs word levels report = after (face_verdict H bs S xs word levels report) (face_report H S xs)
