-- The form in which a run is told, and which of its lines, as the words of `trace` say it.
use Rattle.ppm_cli.specs.declared.trace.TracedForm.{TracedForm}
use Rattle.ppm_cli.specs.declared.trace.TracedForm.TheVariants as forms
use Rattle.ppm_cli.specs.declared.trace.TracedLines.{TracedLines}
use Rattle.ppm_cli.specs.declared.trace.TracedLines.TheVariants as asked
use Rattle.ppm_lines.specs.declared.shown.Only.{Only}
use Rattle.ppm_lines.specs.declared.shown.Only.TheVariants as shown
use Rattle.ppm_lines.specs.declared.form.Form.{Form}
use Rattle.ppm_lines.specs.declared.form.Form.TheVariants.{Lines, Events, Picture}

-- which lines are written, as the options say it
abbrev pub only_of : TracedLines → Only
only_of asked.Turns = shown.Turns
only_of asked.Rows = shown.Rows
only_of asked.Marks = shown.Marks

-- the form in which a run is told, as the options say it
abbrev pub form_by : TracedForm → TracedLines → Form
form_by forms.Text lines = Lines (only_of lines)
form_by forms.Json lines = Events
form_by forms.Svg lines = Picture
