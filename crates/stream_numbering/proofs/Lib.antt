mod Filling
mod InvokedSites
mod NumberedParts
mod Numbers
mod Outputs
mod SiteTables
